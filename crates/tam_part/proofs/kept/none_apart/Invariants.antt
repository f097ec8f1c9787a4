use Rattle.std.proofs.Common.{◌≡◌, [], map}
use Rattle.tam_word.specs.Lists.{below}
use Rattle.tam_part.proofs.kept.none_apart.Given as goal

abbrev pub invariant-loop-place : goal.invariant-loop-place
invariant-loop-place l = l.apart.items ≡ map (λ _. []) (below l._place)
