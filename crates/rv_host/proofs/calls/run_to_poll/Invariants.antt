use Rattle.std.proofs.Common.{◌≡◌, ◌+◌, ◌≤◌}
use Rattle.rv_host.specs.HostStates.{beside_of}
use Rattle.rv_host.proofs.Onward.{GoesOnward}
use Rattle.rv_host.proofs.calls.run_to_poll.Given as goal

abbrev pub invariant-loop-left : goal.invariant-loop-left
invariant-loop-left l = record {
  goes : GoesOnward l.most l.left l.fn.state l.state l.fn.rv l.rv;
  beside : beside_of l.state ≡ beside_of l.fn.state;
  steps : l.rv.steps + l.left ≤ l.fn.rv.steps + l.most;
}

abbrev pub decreases-loop-left : goal.decreases-loop-left
decreases-loop-left l = l.left
