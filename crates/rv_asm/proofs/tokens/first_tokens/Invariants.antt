-- The tokens so far, and behind them as many of the rest as are left.
use Rattle.std.proofs.Common.{◌≡◌, ◌++◌, ◌+◌}
use Rattle.rv_asm.specs.Tokens.{max_tokens}
use Rattle.rv_asm.specs.Splitting.{tokens_up_to}
use Rattle.rv_asm.specs.StatementView.{texts}
use Rattle.rv_asm.proofs.tokens.first_tokens.Given as goal

abbrev pub invariant-loop-left : goal.invariant-loop-left
invariant-loop-left l = texts l.tokens.items ++ tokens_up_to l.left l.rest ≡ tokens_up_to (max_tokens + 1) l.fn.line

abbrev pub decreases-loop-left : goal.decreases-loop-left
decreases-loop-left l = l.left
