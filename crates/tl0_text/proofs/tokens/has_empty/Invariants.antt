-- No token that was passed is empty.
use Rattle.std.proofs.Common.{◌≡◌, length}
use Rattle.tl0_text.specs.CodeSayings.{has_empty}
use Rattle.tl0_text.specs.TokensView.{texts}
use Rattle.tl0_text.proofs.tokens.has_empty.Given as goal

abbrev pub invariant-loop-rest : goal.invariant-loop-rest
invariant-loop-rest l = has_empty (texts l.rest) ≡ has_empty (texts l.tokens)

abbrev pub decreases-loop-rest : goal.decreases-loop-rest
decreases-loop-rest l = length l.rest
