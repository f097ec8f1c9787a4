use Rattle.std.proofs.Common.{ap, sym, subst, ◌∙◌}
use Rattle.tam_input.specs.Told.{told, ForSome}
use Rattle.tam_input.specs.Refusing.{IsOrder}
use Rattle.tam_input.proofs.Found.{if-ok, if-err, words-found, order-found, order-refused}
use Rattle.tam_input.proofs.input.read_order.Goals as goal

pub returns-in-Some-clause-found : goal.returns-in-Some-clause-found
returns-in-Some-clause-found g c =
    if-ok c.read_order_file.result (order-found c.args.job.now (told g.F.Files.left g.F.Files.faults g.F.Files.ends c.args.files.now) c.in-Some.file.now
    (ap (λ j. j.order_file) (sym c.take_order-order.ensures.kept) ∙ c.in-Some.ensures.found)) c.read_order_file.ensures.found

pub returns-in-Some-clause-refused : goal.returns-in-Some-clause-refused
returns-in-Some-clause-refused g c =
    if-err c.read_order_file.result (order-refused c.args.job.now (told g.F.Files.left g.F.Files.faults g.F.Files.ends c.args.files.now)
    (told g.F.Files.left g.F.Files.faults g.F.Files.ends c.read_order_file.new.files) c.in-Some.file.now
    (ap (λ j. j.order_file) (sym c.take_order-order.ensures.kept) ∙ c.in-Some.ensures.found)) c.read_order_file.ensures.refused

pub returns-in-None-clause-found : goal.returns-in-None-clause-found
returns-in-None-clause-found g c =
    subst (λ order. ForSome (g.F.Files.left c.args.files.now) (λ contents. IsOrder c.args.job.now contents order)) (sym c.take_order-order.ensures.value)
    (words-found c.args.job.now (told g.F.Files.left g.F.Files.faults g.F.Files.ends c.args.files.now)
    (ap (λ j. j.order_file) (sym c.take_order-order.ensures.kept) ∙ c.in-None.ensures.absent))
