-- The words so far and those that are left are all; what was passed had no fault.
use Rattle.std.proofs.Common.{◌≡◌, ◌+◌, ◌++◌, length, map}
use Rattle.rv_asm.specs.Faults.{second_pass}
use Rattle.rv_asm.specs.Reading.{words_at}
use Rattle.rv_asm.specs.Sound.{codes_of, all_there}
use Rattle.rv_asm.specs.PassView.{labels_seen, placed_seen}
use Rattle.rv_asm.proofs.second_pass.words_of.Given as goal

abbrev pub invariant-loop-rest : goal.invariant-loop-rest
invariant-loop-rest l = record {
  words : all_there l.words.items ++ words_at (labels_seen l.labels.entries) l.at (codes_of (map placed_seen l.rest))
      ≡ words_at (labels_seen l.labels.entries) 0 (codes_of (map placed_seen l.placed));
  faults : second_pass (labels_seen l.labels.entries) l.at (map placed_seen l.rest) ≡ second_pass (labels_seen l.labels.entries) 0 (map placed_seen l.placed);
  made : length l.words.items ≡ l.at;
  few : l.at + length l.rest ≡ length l.placed;
}

abbrev pub decreases-loop-rest : goal.decreases-loop-rest
decreases-loop-rest l = length l.rest
