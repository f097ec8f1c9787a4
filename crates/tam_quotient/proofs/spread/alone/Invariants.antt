use Rattle.std.proofs.Common.{◌≡◌, map}
use Rattle.std.proofs.Common.{[]}
use Rattle.tam_word.specs.Lists.{below}
use Rattle.tam_sets.specs.Sets.{with_place}
use Rattle.tam_quotient.proofs.spread.alone.Given as goal

abbrev pub invariant-loop-k : goal.invariant-loop-k
invariant-loop-k l = l.sets.items ≡ map (λ k. with_place k []) (below l.k)
