use Rattle.std.proofs.Common.{◌≡◌, take}
use Rattle.tam_word.specs.Lists.{has}
use Rattle.tam_sets.specs.Sets.{places_where}
use Rattle.tam_quotient.proofs.gather.set_of.Given as goal

abbrev pub invariant-loop-place : goal.invariant-loop-place
invariant-loop-place l = l.set ≡ places_where (has (take l.place-index l.places))
