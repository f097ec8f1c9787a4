use Rattle.std.proofs.Common.{◌-◌, ◌+◌, ◌≤◌}
use Rattle.rv_inst.specs.Steps.{Comes}
use Rattle.rv_machine.specs.Runs.{at}
use Rattle.rv_machine.proofs.rv.Rv.run.Given as goal

abbrev pub invariant-loop-done : goal.invariant-loop-done
invariant-loop-done l = record {
  few : l.done ≤ l.most;
  comes : Comes l.done l.fn.self (at l.self l.pc (l.fn.self.steps + l.done));
}

abbrev pub decreases-loop-done : goal.decreases-loop-done
decreases-loop-done l = l.most - l.done
