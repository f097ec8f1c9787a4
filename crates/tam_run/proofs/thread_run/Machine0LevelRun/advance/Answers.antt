use Rattle.std.specs.Prelude.{Ok, Err}
use Rattle.tam_run.specs.Halts.{thread_halt}
use Rattle.tam_run.proofs.ThreadEvents.{thread-came}
use Rattle.tam_run.proofs.RunSteps.{error-is}
use Rattle.tam_run.proofs.thread_run.Machine0LevelRun.advance.Goals as goal

pub returns : goal.returns
returns c =
    let came = thread-came c.args.self.now c.event.new.self c.args.order.now c.event.new.order (Ok c.in_ok-event.field-0)
    (record { event = c.in_ok-event.ensures.event; program = c.in_ok-event.ensures.program; limits = c.in_ok-event.ensures.limits }) in
    record { event = λ printed a tells. (came printed a tells).0; prefix = λ printed a tells. (came printed a tells).1 }

pub returns-in_err-event : goal.returns-in_err-event
returns-in_err-event c =
    let came = thread-came c.args.self.now c.event.new.self c.args.order.now c.event.new.order (Err c.in_err-event.field-0.0)
    (record { event = c.in_err-event.ensures.event; program = c.in_err-event.ensures.program; limits = c.in_err-event.ensures.limits }) in
    let is = error-is c.from_residual.result (thread_halt c.in_err-event.field-0.0) c.from_residual.ensures.1 in
    record { event = λ printed a tells. rw is (came printed a tells).0; prefix = λ printed a tells. rw is (came printed a tells).1 }
