use Rattle.std.proofs.Common.{◌≡◌, ◌++◌, map, take, drop}
use Rattle.tam_sets.specs.Sets.{met}
use Rattle.tam_reach.proofs.reach.keep.Given as goal

abbrev pub invariant-loop-set : goal.invariant-loop-set
invariant-loop-set l = l.sets ≡ map (λ set. met set l.other) (take l.set-index l.fn.sets) ++ drop l.set-index l.fn.sets
