use Rattle.std.proofs.Common.{◌≡◌, map, drop, length}
use Rattle.tam_word.specs.Lists.{below}
use Rattle.tam_reach.proofs.Spread.{reaching}
use Rattle.tam_reach.proofs.reach.depends.Given as goal

abbrev pub invariant-loop-place : goal.invariant-loop-place
invariant-loop-place l = l.sets.items ≡ map (reaching (drop l.place l.edges)) (below (length l.vertices))
