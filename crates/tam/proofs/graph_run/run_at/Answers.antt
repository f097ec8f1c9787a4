use Rattle.std.proofs.Common.{◌∙◌, sym, ap}
use Rattle.tam_run.specs.HandedOut.{handed_out}
use Rattle.tam_run.specs.Levels.{account_at, machine_at}
use Rattle.tam.proofs.graph_run.run_at.Goals as goal

pub returns : goal.returns
returns g c = record {
  done = c.answer_outcome.ensures.done (account_at c.args.level c.args.graph.now c.args.args.now c.args.order c.args.limits) (g.K.Sink.taken c.args.out.now)
      (g.K.Sink.faults c.args.out.now) c.run-outcome.ensures.text c.run-outcome.ensures.counted;
  machine = c.run-outcome.ensures.machine
      ∙ ap (λ w. handed_out w (machine_at c.args.level c.args.graph.now c.args.args.now c.args.order c.args.limits) c.args.machine.now)
      (sym c.answer_outcome.ensures.answered);
}
