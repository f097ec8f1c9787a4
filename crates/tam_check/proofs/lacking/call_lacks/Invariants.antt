use Rattle.std.proofs.Common.{◌≡◌, false}
use Rattle.tam_word.specs.Lists.{any_of, below}
use Rattle.tam_check.specs.Interfaces.{call_lacks_at}
use Rattle.tam_check.proofs.lacking.call_lacks.Given as goal

abbrev pub invariant-loop-place : goal.invariant-loop-place
invariant-loop-place l = any_of (call_lacks_at l.tables.code.now l.call l.callee.code.now) (below l.place) ≡ false
