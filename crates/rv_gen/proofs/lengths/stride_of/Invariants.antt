-- The widest of the rest, from the widest so far on.
use Rattle.std.proofs.Common.{◌≡◌, length}
use Rattle.std.specs.Prelude.{max, fold}
use Rattle.rv_keep.specs.Image.{frame_bytes, stride_of}
use Rattle.rv_gen.proofs.lengths.stride_of.Given as goal

abbrev pub invariant-loop-rest : goal.invariant-loop-rest
invariant-loop-rest l = fold (λ n c. max n (frame_bytes c)) l.stride l.rest ≡ stride_of l.fn.program

abbrev pub decreases-loop-rest : goal.decreases-loop-rest
decreases-loop-rest l = length l.rest
