use Rattle.std.proofs.Common.{◌≡◌, ◌++◌, ◌-◌, length, map}
use Rattle.tam_word.specs.Lists.{below}
use Rattle.tam_graph.specs.Edges.{Edges}
use Rattle.tam_split.specs.GraphPartitions.{taken_first, firing_order}
use Rattle.tam_order.specs.ClassOrders.{preceding_of}
use Rattle.tam_order.proofs.FiringSteps.{untaken}
use Rattle.tam_order.proofs.firing.firing_order.Given as goal

abbrev pub invariant-loop : goal.invariant-loop
invariant-loop l =
    (es : Edges) → l.preceding ≡ map (preceding_of es) (below (length l.preceding))
    → l.order.items ++ taken_first (length l.class - l.counter) es (untaken l.taken l.class) ≡ firing_order es l.class
