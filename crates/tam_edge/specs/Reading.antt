-- What one read of a file gives.
use Rattle.std.specs.Prelude.{◌≡◌, ◌↔◌, ℕ, List, [], Option, None, Some, Result, Ok, Err, ⊤}
use Rattle.tam_edge.specs.declared.files.FileError.{FileError}
use Rattle.tam_edge.specs.declared.files.FileError.TheVariants.{Failed, NoMemory}

-- no byte is given exactly where none of the told bytes is left
abbrev pub GivesNoneAtEnd : ℕ → Option (List ℕ) → Type 0
GivesNoneAtEnd count None = ⊤
GivesNoneAtEnd count (Some bytes) = (count ≡ 0) ↔ (bytes ≡ [])

-- want of memory leaves the piece as it was
abbrev pub KeepsPiece : List ℕ → List ℕ → Result ℕ FileError → Type 0
KeepsPiece before now (Ok count) = ⊤
KeepsPiece before now (Err Failed) = ⊤
KeepsPiece before now (Err NoMemory) = now ≡ before
