use Rattle.std.proofs.Common.{◌≡◌}
use Rattle.tam_word.specs.Lists.{below}
use Rattle.tam_quotient.proofs.gather.numbers.Given as goal

abbrev pub invariant-loop-k : goal.invariant-loop-k
invariant-loop-k l = l.numbers.items ≡ below l.k
