use Rattle.std.proofs.Common.{refl, Ok, Err, Some}
use Rattle.tl0_machine.specs.ThreadEvents.{ThreadRun}
use Rattle.tl0_machine.specs.ThreadStates.{state_of}
use Rattle.tl0_machine.proofs.Choosing.{first-event}
use Rattle.tl0_machine.proofs.machine0.Machine0.event.Goals as goal

pub returns-in-Ok-clause-event : goal.returns-in-Ok-clause-event
returns-in-Ok-clause-event c =
    let run : ThreadRun = record {
      program = c.self.inside.table;
      limits = c.self.inside.limits;
      state = state_of c.self.inside.state;
      stopped = c.self.inside.stopped;
    } in
    let new : ThreadRun = record run { state = state_of c.advance.new.state } in
    first-event run c.args.self.now new c.args.order.now c.advance.new.order (Ok c.in-Ok.step) c.self.view_is c.in_default.is
    (λ printed marked. record { outcome = c.in-Ok.ensures.value printed marked; marks = c.in-Ok.ensures.marks printed marked }) c.in_default.is
    c.in-Ok.ensures.quiet c.in-Ok.ensures.chosen

pub returns-in-Err-clause-event : goal.returns-in-Err-clause-event
returns-in-Err-clause-event c =
    let run : ThreadRun = record {
      program = c.self.inside.table;
      limits = c.self.inside.limits;
      state = state_of c.self.inside.state;
      stopped = c.self.inside.stopped;
    } in
    let new : ThreadRun = record run { state = state_of c.advance.new.state; stopped = Some c.in-Err.stop } in
    first-event run c.args.self.now new c.args.order.now c.advance.new.order (Err c.in-Err.stop) c.self.view_is c.in_default.is
    (λ printed marked. record { outcome = c.in-Err.ensures.value printed marked; marks = c.in-Err.ensures.marks printed marked }) refl tt
    c.in-Err.ensures.chosen
