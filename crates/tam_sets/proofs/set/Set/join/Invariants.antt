use Rattle.std.proofs.Common.{◌≡◌, ◌<◌, ◌≤◌, ℕ, length, get_or}
use Rattle.std.specs.Prelude.{bit_or}
use Rattle.tam_sets.proofs.set.Set.join.Given as goal

abbrev pub invariant-loop-k : goal.invariant-loop-k
invariant-loop-k l =
    (length l.words ≡ 8)
    × ((k : ℕ) → k < l.k → get_or l.words k 0 ≡ bit_or (get_or l.initial.words k 0) (get_or l.o-inside.words k 0))
    × ((k : ℕ) → l.k ≤ k → get_or l.words k 0 ≡ get_or l.initial.words k 0)
