use Rattle.std.proofs.Common.{refl, Ok, Err, Some}
use Rattle.tam_eval.specs.Events.{EvalRun}
use Rattle.tam_eval.specs.Machines.{state_of}
use Rattle.tam_eval.proofs.Choosing.{first-event}
use Rattle.tam_eval.proofs.eval.Eval.event.Goals as goal

pub returns-in-Ok-clause-event : goal.returns-in-Ok-clause-event
returns-in-Ok-clause-event c =
    let run : EvalRun = record {
      graph = c.self.inside.program;
      limits = c.self.inside.limits;
      state = state_of c.self.inside.machine;
      stopped =
          c.self.inside.stopped;
    } in
    let new : EvalRun = record run { state = state_of c.advance.new.machine } in
    first-event run c.args.self.now new c.args.order.now c.advance.new.order
    (Ok c.in-Ok.step) c.self.view_is c.in_default.is c.in-Ok.ensures.outcome c.in_default.is c.in-Ok.ensures.quiet c.in-Ok.ensures.chosen

pub returns-in-Err-clause-event : goal.returns-in-Err-clause-event
returns-in-Err-clause-event c =
    let run : EvalRun = record {
      graph = c.self.inside.program;
      limits = c.self.inside.limits;
      state = state_of c.self.inside.machine;
      stopped =
          c.self.inside.stopped;
    } in
    let new : EvalRun = record run { state = state_of c.advance.new.machine; stopped = Some c.in-Err.stop } in
    first-event run c.args.self.now new c.args.order.now c.advance.new.order
    (Err c.in-Err.stop) c.self.view_is c.in_default.is c.in-Err.ensures.outcome refl tt c.in-Err.ensures.chosen
