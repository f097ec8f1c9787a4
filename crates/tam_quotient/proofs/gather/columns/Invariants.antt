use Rattle.std.proofs.Common.{◌≡◌, map}
use Rattle.tam_word.specs.Lists.{below}
use Rattle.tam_quotient.specs.Tables.{column}
use Rattle.tam_quotient.proofs.gather.columns.Given as goal

abbrev pub invariant-loop-k : goal.invariant-loop-k
invariant-loop-k l = l.columns.items ≡ map (column l.leads) (below l.k)
