-- When a refusal is the first of the faults that there are.
use Rattle.std.specs.Prelude.{ℕ, ◌≡◌, List, [], ◌∷◌, take}
use Rattle.tam_read.specs.declared.cause.ReadCause.{ReadCause}
use Rattle.tam_read.specs.declared.refused.Refused.{Refused}
use Rattle.tam_read.specs.declared.refused.Refused.TheVariants.{At, NoMemory}

-- it tells the first of the faults, or that there was no memory
abbrev pub IsFirst : List (ℕ × ReadCause) → Refused → Type 0
IsFirst faults (At line cause) = take 1 faults ≡ (line, cause) ∷ []
IsFirst faults NoMemory = Unit {0}
