-- The machine code of the rest goes behind what was pushed, and the rest is sayable.
use Rattle.std.proofs.Common.{◌≡◌, ◌++◌, length, flat_map}
use Rattle.std.specs.Prelude.{slice_index}
use Rattle.std.specs.List.{AllByRecursion}
use Rattle.rv_keep.specs.Expansions.{expanded}
use Rattle.rv_gen.specs.Sayable.{IsSayable}
use Rattle.rv_gen.specs.Parts.{words_of}
use Rattle.rv_gen.proofs.threads.push_instrs.Given as goal

abbrev pub invariant-loop-rest : goal.invariant-loop-rest
invariant-loop-rest l = record {
  ok : l.words.items ++ words_of (flat_map (expanded l.slots (slice_index l.starts) l.code) l.rest)
      ≡ l.fn.words.items ++ words_of (flat_map (expanded l.slots (slice_index l.starts) l.code) l.fn.instrs);
  sayable : AllByRecursion (IsSayable l.slots (length l.starts)) l.rest;
}

abbrev pub decreases-loop-rest : goal.decreases-loop-rest
decreases-loop-rest l = length l.rest
