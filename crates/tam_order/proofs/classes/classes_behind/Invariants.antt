use Rattle.std.proofs.Common.{◌≡◌, map, drop, length}
use Rattle.tam_word.specs.Lists.{below}
use Rattle.tam_order.specs.ClassOrders.{behind_of}
use Rattle.tam_order.proofs.classes.classes_behind.Given as goal

abbrev pub invariant-loop-place : goal.invariant-loop-place
invariant-loop-place l = l.sets.items ≡ map (behind_of (drop l.place l.edges) l.p) (below (length l.p))
