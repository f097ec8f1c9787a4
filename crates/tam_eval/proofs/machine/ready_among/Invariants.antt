use Rattle.std.proofs.Common.{◌≡◌, ◌++◌, drop, map, filter}
use Rattle.tam_graph.specs.Graphs.{Graph}
use Rattle.tam_world.specs.Worlds.{World}
use Rattle.tam_world.specs.Kept.{pairs_of}
use Rattle.tam_eval.specs.GraphRuns.{is_enabled}
use Rattle.tam_eval.specs.Standing.{IsStanding}
use Rattle.tam_eval.proofs.machine.ready_among.Given as goal

abbrev pub invariant-loop-node : goal.invariant-loop-node
invariant-loop-node l =
    (g : Graph) (w : World) → IsStanding g w l.i l.standing
    → pairs_of l.ready.items ++ map (λ x. (l.i, x)) (filter (is_enabled g w l.i) (drop l.node-index l.nodes))
    ≡ pairs_of l.fn.ready.items ++ map (λ x. (l.i, x)) (filter (is_enabled g w l.i) l.nodes)
