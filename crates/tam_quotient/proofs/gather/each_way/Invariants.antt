use Rattle.std.proofs.Common.{◌≡◌, map}
use Rattle.tam_word.specs.Lists.{below}
use Rattle.tam_quotient.specs.Joins.{ways_to}
use Rattle.tam_quotient.proofs.gather.each_way.Given as goal

abbrev pub invariant-loop-k : goal.invariant-loop-k
invariant-loop-k l = l.ways.items ≡ map (ways_to l.inlets l.outlets l.classes l.leads l.depends) (below l.k)
