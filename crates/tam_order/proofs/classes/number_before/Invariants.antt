use Rattle.std.proofs.Common.{◌≡◌, ◌+◌, drop, count_by}
use Rattle.tam_word.specs.Lists.{has}
use Rattle.tam_order.proofs.classes.number_before.Given as goal

abbrev pub invariant-loop-set : goal.invariant-loop-set
invariant-loop-set l = l.count + count_by (λ set. has set l.k) (drop l.set-index l.sets) ≡ count_by (λ set. has set l.k) l.sets
