-- What stands behind the first operands is appended to what was there.
use Rattle.std.proofs.Common.{◌≡◌, ◌++◌, length}
use Rattle.rv_asm.specs.AsmText.{further_operands}
use Rattle.rv_asm.proofs.printer.push_further.Given as goal

abbrev pub invariant-loop-rest : goal.invariant-loop-rest
invariant-loop-rest l = l.text.items ++ further_operands l.rest ≡ l.fn.text.items ++ further_operands l.fn.operands

abbrev pub decreases-loop-rest : goal.decreases-loop-rest
decreases-loop-rest l = length l.rest
