-- No byte that was passed is an LF.
use Rattle.std.proofs.Common.{◌≡◌, length}
use Rattle.tl0_text.specs.CodeSayings.{is_whole}
use Rattle.tl0_text.proofs.tokens.is_whole.Given as goal

abbrev pub invariant-loop-rest : goal.invariant-loop-rest
invariant-loop-rest l = is_whole l.rest ≡ is_whole l.line

abbrev pub decreases-loop-rest : goal.decreases-loop-rest
decreases-loop-rest l = length l.rest
