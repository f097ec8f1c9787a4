use Rattle.std.proofs.Common.{◌≡◌, ◌<◌, ◌≤◌, ℕ, length, get_or}
use Rattle.std.specs.Prelude.{bit_and}
use Rattle.tam_sets.proofs.set.Set.meet.Given as goal

abbrev pub invariant-loop-k : goal.invariant-loop-k
invariant-loop-k l =
    (length l.words ≡ 8)
    × ((k : ℕ) → k < l.k → get_or l.words k 0 ≡ bit_and (get_or l.initial.words k 0) (get_or l.o-inside.words k 0))
    × ((k : ℕ) → l.k ≤ k → get_or l.words k 0 ≡ get_or l.initial.words k 0)
