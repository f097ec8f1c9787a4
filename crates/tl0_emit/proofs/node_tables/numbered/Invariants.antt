use Rattle.std.proofs.Common.{◌≡◌, map, length}
use Rattle.tam_word.specs.Lists.{below}
use Rattle.tl0_emit.proofs.NodeSteps.{place_from}
use Rattle.tl0_emit.proofs.node_tables.numbered.Given as goal

abbrev pub invariant-loop : goal.invariant-loop
invariant-loop l = l.places.items ≡ map (λ _. length l.listed) (below l.counter)

abbrev pub invariant-loop-place : goal.invariant-loop-place
invariant-loop-place l = l.places.items ≡ map (place_from l.listed l.place) (below l.count)
