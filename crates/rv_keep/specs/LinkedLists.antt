-- Lists that are linked through words of the memory.
-- The rules in words: docs/MACHINE.md, "Machine code".
use Rattle.std.specs.Prelude.{ℕ, ◌+◌, ◌≡◌, ◌≢◌, List, [], ◌∷◌}
use Rattle.rv_inst.specs.Harts.{read_at}

-- the addresses follow one another from the first on: behind each, at an offset, stands the next, and behind the last 0
abbrev pub Chain : List ℕ → ℕ → ℕ → List ℕ → Type 0
Chain memory off first [] = first ≡ 0
Chain memory off first (a ∷ rest) = (first ≡ a) × (a ≢ 0) × Chain memory off (read_at memory (a + off) 4) rest

-- the last address, or 0
abbrev pub last_of : List ℕ → ℕ
last_of [] = 0
last_of (a ∷ []) = a
last_of (a ∷ b ∷ rest) = last_of (b ∷ rest)
