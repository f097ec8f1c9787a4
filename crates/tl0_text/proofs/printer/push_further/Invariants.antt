-- What is printed of the rest goes behind what was printed.
use Rattle.std.proofs.Common.{◌≡◌, ◌++◌, length}
use Rattle.tl0_text.specs.Printing.{further}
use Rattle.tl0_text.proofs.printer.push_further.Given as goal

abbrev pub invariant-loop-rest : goal.invariant-loop-rest
invariant-loop-rest l = l.text.items ++ further l.rest ≡ l.fn.text.items ++ further l.fn.numbers

abbrev pub decreases-loop-rest : goal.decreases-loop-rest
decreases-loop-rest l = length l.rest
