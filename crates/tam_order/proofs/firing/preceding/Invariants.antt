use Rattle.std.proofs.Common.{◌≡◌, map, drop, length}
use Rattle.tam_word.specs.Lists.{below}
use Rattle.tam_order.specs.ClassOrders.{preceding_of}
use Rattle.tam_order.proofs.firing.preceding.Given as goal

abbrev pub invariant-loop-place : goal.invariant-loop-place
invariant-loop-place l = l.sets.items ≡ map (preceding_of (drop l.place l.edges)) (below (length l.b.vertices))
