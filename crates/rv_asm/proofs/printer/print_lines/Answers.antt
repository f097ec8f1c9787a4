-- The words that are printed are below 2^32.
use Rattle.std.proofs.Common.{arith}
use Rattle.rv_asm.proofs.printer.print_lines.Goals as goal

pub returns-clause-below : goal.returns-clause-below
returns-clause-below c = λ k. omega (arith, c.type_inv.words k)
