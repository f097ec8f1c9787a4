use Rattle.std.proofs.Common.{◌≡◌, ◌+◌, ◌≤◌, length, map}
use Rattle.tam_read.specs.Parts.{body_of}
use Rattle.tam_read.specs.LineView.{numbered}
use Rattle.tam_read.proofs.part.body_len.Given as goal

abbrev pub invariant-loop-rest : goal.invariant-loop-rest
invariant-loop-rest l = record {
  so_far : l.len + length (body_of (map numbered l.rest)) ≡ length (body_of (map numbered l.lines));
  within : l.len + length l.rest ≡ length l.lines;
}

abbrev pub decreases-loop-rest : goal.decreases-loop-rest
decreases-loop-rest l = length l.rest
