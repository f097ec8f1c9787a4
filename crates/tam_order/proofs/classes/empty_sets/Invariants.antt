use Rattle.std.proofs.Common.{◌≡◌, map, []}
use Rattle.tam_word.specs.Lists.{below}
use Rattle.tam_order.proofs.classes.empty_sets.Given as goal

abbrev pub invariant-loop : goal.invariant-loop
invariant-loop l = l.sets.items ≡ map (λ _. []) (below l.counter)
