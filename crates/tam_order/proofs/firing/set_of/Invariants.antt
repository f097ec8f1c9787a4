use Rattle.std.proofs.Common.{◌≡◌, drop}
use Rattle.tam_word.specs.Lists.{has}
use Rattle.tam_sets.specs.Sets.{places_where}
use Rattle.tam_order.proofs.firing.set_of.Given as goal

abbrev pub invariant-loop-index : goal.invariant-loop-index
invariant-loop-index l = l.set ≡ places_where (has (drop l.index l.places))
