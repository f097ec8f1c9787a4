-- The numbers of a list of words fit.
use Rattle.std.proofs.Common.{arith}
use Rattle.tl0_text.proofs.Printed.{words-fit}
use Rattle.tl0_text.proofs.printer.push_line.Goals as goal

pub returns-in_err-push-clause-words : goal.returns-in_err-push-clause-words
returns-in_err-push-clause-words c = words-fit c.args.numbers.now (λ k. omega (arith, c.type_inv.numbers k))

pub returns-in_err-push_further-clause-words : goal.returns-in_err-push_further-clause-words
returns-in_err-push_further-clause-words c = words-fit c.args.numbers.now (λ k. omega (arith, c.type_inv.numbers k))

pub returns-clause-words : goal.returns-clause-words
returns-clause-words c = words-fit c.args.numbers.now (λ k. omega (arith, c.type_inv.numbers k))
