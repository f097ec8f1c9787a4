use Rattle.std.proofs.Common.{refl, subst}
use Rattle.std.specs.Prelude.{Ok, Err}
use Rattle.tam_run.specs.Halts.{host_halt}
use Rattle.tam_run.specs.ImageTelling.{MachineRun}
use Rattle.tam_run.proofs.RunSteps.{error-is}
use Rattle.tam_run.proofs.ImageEvents.{IsHostEvent, image-came}
use Rattle.tam_run.proofs.image_run.ImageRunLevelRun.advance.Goals as goal

pub returns : goal.returns
returns c =
    let new : MachineRun = record { image = c.self.inside.image.now; host = c.poll.new.self; hart = c.poll.new.rv } in
    let is = subst (λ old. IsHostEvent old new c.args.order.now c.poll.new.order (Ok c.in_ok-poll.field-0)) c.self.view_is
    (record { poll = c.in_ok-poll.ensures.poll; image = refl; limits = c.in_ok-poll.ensures.limits; results = c.in_ok-poll.ensures.results }) in
    let came = image-came c.args.self.now new c.args.order.now c.poll.new.order (Ok c.in_ok-poll.field-0) is in
    record { event = λ printed a tells. (came printed a tells).0; prefix = λ printed a tells. (came printed a tells).1 }

pub returns-in_err-poll : goal.returns-in_err-poll
returns-in_err-poll c =
    let new : MachineRun = record { image = c.self.inside.image.now; host = c.poll.new.self; hart = c.poll.new.rv } in
    let is = subst (λ old. IsHostEvent old new c.args.order.now c.poll.new.order (Err c.in_err-poll.field-0.0)) c.self.view_is
    (record { poll = c.in_err-poll.ensures.poll; image = refl; limits = c.in_err-poll.ensures.limits; results = c.in_err-poll.ensures.results }) in
    let came = image-came c.args.self.now new c.args.order.now c.poll.new.order (Err c.in_err-poll.field-0.0) is in
    let same = error-is c.from_residual.result (host_halt c.in_err-poll.field-0.0) c.from_residual.ensures.1 in
    record { event = λ printed a tells. rw same (came printed a tells).0; prefix = λ printed a tells. rw same (came printed a tells).1 }
