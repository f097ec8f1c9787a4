use Rattle.std.proofs.Common.{◌≡◌, ◌==◌, map}
use Rattle.tam_word.specs.Lists.{below}
use Rattle.tam_sets.specs.Sets.{places_where}
use Rattle.tam_reach.proofs.reach.each_alone.Given as goal

abbrev pub invariant-loop-place : goal.invariant-loop-place
invariant-loop-place l = l.sets.items ≡ map (λ y. places_where (λ x. x == y)) (below l.place)
