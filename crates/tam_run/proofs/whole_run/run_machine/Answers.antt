use Rattle.std.proofs.Common.{sym, ◌∙◌, ap, subst}
use Rattle.tl0_keep.specs.Compiled.{compiled}
use Rattle.rv_inst.specs.Images.{Image}
use Rattle.rv_keep.specs.Image.{image_of}
use Rattle.tam_run.specs.Accounts.{image_account}
use Rattle.tam_run.specs.HandedOut.{HandsOutExec}
use Rattle.tam_run.specs.Writing.{Executes}
use Rattle.tam_run.proofs.Texts.{none-written}
use Rattle.tam_run.proofs.HandingOut.{none-handed}
use Rattle.tam_run.proofs.MainParams.{image_params-same}
use Rattle.tam_run.proofs.whole_run.run_machine.Goals as goal

pub run_image-requires-clause-one_each : goal.run_image-requires-clause-one_each
run_image-requires-clause-one_each g c =
    c.requires.arguments.one_each
    ∙ sym (ap (λ (i : Image). i.params) c.in-Ok.ensures.value ∙ image_params-same c.args.g.now c.graph-graph.ensures.accepted)

pub returns-in-Ok-clause-text : goal.returns-in-Ok-clause-text
returns-in-Ok-clause-text g c = subst (λ i. Executes (image_account i c.args.args.now c.args.order c.args.limits) (g.K.Sink.taken c.args.out.now)
    (g.K.Sink.taken c.run_image.new.out) c.run_image.result) c.in-Ok.ensures.value c.run_image.ensures.text

pub returns-in-Ok-clause-machine : goal.returns-in-Ok-clause-machine
returns-in-Ok-clause-machine g c = subst (λ i. HandsOutExec (image_account i c.args.args.now c.args.order c.args.limits).machine c.args.machine.now
    c.run_image.new.machine c.run_image.result) c.in-Ok.ensures.value c.run_image.ensures.machine

pub returns-in-Err-clause-text : goal.returns-in-Err-clause-text
returns-in-Err-clause-text g c =
    none-written (image_account (image_of (compiled c.args.g.now)) c.args.args.now c.args.order c.args.limits) (g.K.Sink.taken c.args.out.now)
    c.from.result c.from.ensures

pub returns-in-Err-clause-machine : goal.returns-in-Err-clause-machine
returns-in-Err-clause-machine g c =
    none-handed (image_account (image_of (compiled c.args.g.now)) c.args.args.now c.args.order c.args.limits).machine c.args.machine.now
    c.from.result c.from.ensures
