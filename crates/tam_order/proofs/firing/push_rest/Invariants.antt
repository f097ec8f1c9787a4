use Rattle.std.proofs.Common.{◌≡◌, ◌++◌, not, drop, filter}
use Rattle.tam_word.specs.Lists.{has}
use Rattle.tam_order.proofs.firing.push_rest.Given as goal

abbrev pub invariant-loop-place : goal.invariant-loop-place
invariant-loop-place l =
    l.order.items ++ filter (λ x. not (has l.taken x)) (drop l.place-index l.class) ≡ l.initial.order.items ++ filter (λ x. not (has l.taken x)) l.class
