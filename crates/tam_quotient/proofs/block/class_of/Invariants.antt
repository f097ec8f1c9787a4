use Rattle.std.proofs.Common.{◌≡◌, ◌<◌, ℕ, false}
use Rattle.tam_word.specs.Lists.{has}
use Rattle.tam_split.specs.Partitions.{class_at}
use Rattle.tam_quotient.proofs.block.class_of.Given as goal

abbrev pub invariant-loop-k : goal.invariant-loop-k
invariant-loop-k l = (j : ℕ) → j < l.k → has (class_at l.p j) l.place ≡ false
