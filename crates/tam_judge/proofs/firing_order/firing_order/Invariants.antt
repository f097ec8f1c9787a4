use Rattle.std.proofs.Common.{◌≡◌, ◌++◌, ◌-◌, length}
use Rattle.tam_split.specs.GraphPartitions.{taken_first, firing_order}
use Rattle.tam_judge.proofs.firing_order.firing_order.Given as goal

abbrev pub invariant-loop : goal.invariant-loop
invariant-loop l = l.order.items ++ taken_first (length l.class - l.counter) l.edges l.left.items ≡ firing_order l.edges l.class
