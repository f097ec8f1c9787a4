use Rattle.std.proofs.Common.{◌≡◌, ◌<◌, ℕ, get_or}
use Rattle.std.specs.Prelude.{bit_and}
use Rattle.std.specs.Int.{bit_not, w64}
use Rattle.tam_sets.proofs.set.Set.within.Given as goal

abbrev pub invariant-loop-k : goal.invariant-loop-k
invariant-loop-k l = (k : ℕ) → k < l.k → bit_and (get_or l.self-inside.words k 0) (bit_not w64 (get_or l.o-inside.words k 0)) ≡ 0
