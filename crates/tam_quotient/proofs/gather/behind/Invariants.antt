use Rattle.std.proofs.Common.{◌≡◌}
use Rattle.tam_word.specs.Lists.{has}
use Rattle.tam_quotient.specs.Tables.{set_at}
use Rattle.tam_quotient.proofs.Places.{upto}
use Rattle.tam_quotient.proofs.gather.behind.Given as goal

abbrev pub invariant-loop-c : goal.invariant-loop-c
invariant-loop-c l = l.set ≡ upto l.c (λ c. has (set_at l.leads c) l.k)
