-- The blanks that were passed say nothing.
use Rattle.std.proofs.Common.{◌≡◌, length}
use Rattle.rv_asm.specs.Splitting.{first_token}
use Rattle.rv_asm.proofs.tokens.split_token.Given as goal

abbrev pub invariant-loop-rest : goal.invariant-loop-rest
invariant-loop-rest l = first_token l.rest ≡ first_token l.fn.line

abbrev pub decreases-loop-rest : goal.decreases-loop-rest
decreases-loop-rest l = length l.rest
