use Rattle.std.proofs.Common.{rules, ◌≡◌, ap, subst, ◌∙◌}
use Rattle.std.specs.Prelude.{Err}
use Rattle.tam_msgs.specs.Orders.{order_of}
use Rattle.tam_input.specs.Told.{told}
use Rattle.tam_input.proofs.Found.{order-unread, list-refused}
use Rattle.tam_input.proofs.input.read_order_file.Goals as goal

pub returns-in_err-text-clause-refused : goal.returns-in_err-text-clause-refused
returns-in_err-text-clause-refused g c =
    let h = order-unread (told g.F.Files.left g.F.Files.faults g.F.Files.ends c.args.files.now)
    (told g.F.Files.left g.F.Files.faults g.F.Files.ends c.read_file.new.files) c.args.file.now c.in_err-text.field-0.0
    c.in_err-text.ensures.refused c.in_err-text.ensures.ended in
    search (rules, h)

pub returns-in_err-read-clause-refused : goal.returns-in_err-read-clause-refused
returns-in_err-read-clause-refused g c =
    let h = list-refused (told g.F.Files.left g.F.Files.faults g.F.Files.ends c.args.files.now)
    (told g.F.Files.left g.F.Files.faults g.F.Files.ends c.read_file.new.files) c.args.file.now c.in_ok-text.text.items c.in_err-read.field-0.0
    c.in_ok-text.ensures.content c.in_ok-text.ensures.few
    (λ place is. subst (λ b. order_of b ≡ Err place) c.deref.ensures.value (c.read.ensures.bad place (c.in_err-read.was ∙ ap Err is)))
    c.in_ok-text.ensures.ended in
    search (rules, h)
