use Rattle.tam_run.specs.Accounts.{image_account}
use Rattle.tam_run.proofs.Texts.{none-written}
use Rattle.tam_run.proofs.code_run.run_image.Goals as goal

pub returns-in-Err-clause-text : goal.returns-in-Err-clause-text
returns-in-Err-clause-text g c =
    none-written (image_account c.args.image.now c.args.args.now c.args.order c.args.limits) (g.K.Sink.taken c.args.out.now) c.from.result c.from.ensures

pub follow-exec-requires-clause-begun : goal.follow-exec-requires-clause-begun
follow-exec-requires-clause-begun g c =
    (image_account c.args.image.now c.args.args.now c.args.order c.args.limits, c.in-Ok.ensures.begins c.args.order)

pub returns-then-is_whole-clause-text : goal.returns-then-is_whole-clause-text
returns-then-is_whole-clause-text g c =
    c.follow-exec.ensures.text (image_account c.args.image.now c.args.args.now c.args.order c.args.limits) (c.in-Ok.ensures.begins c.args.order)

pub returns-else-is_whole-clause-text : goal.returns-else-is_whole-clause-text
returns-else-is_whole-clause-text g c =
    c.follow-exec.ensures.text (image_account c.args.image.now c.args.args.now c.args.order c.args.limits) (c.in-Ok.ensures.begins c.args.order)
