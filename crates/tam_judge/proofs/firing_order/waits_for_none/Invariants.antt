use Rattle.std.proofs.Common.{◌≡◌, drop}
use Rattle.tam_split.specs.GraphPartitions.{waits_for_none}
use Rattle.tam_judge.proofs.firing_order.waits_for_none.Given as goal

abbrev pub invariant-loop-edge : goal.invariant-loop-edge
invariant-loop-edge l = waits_for_none (drop l.edge-index l.edges) l.left l.place ≡ waits_for_none l.edges l.left l.place
