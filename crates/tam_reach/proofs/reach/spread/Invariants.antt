use Rattle.std.proofs.Common.{◌≡◌, ◌++◌, map, take, drop}
use Rattle.tam_reach.specs.Reached.{spread_into}
use Rattle.tam_reach.proofs.reach.spread.Given as goal

abbrev pub invariant-loop-set : goal.invariant-loop-set
invariant-loop-set l = l.sets ≡ map (spread_into l.at l.more) (take l.set-index l.fn.sets) ++ drop l.set-index l.fn.sets
