-- Addresses in a block of places, by the number of the place.
use Rattle.std.specs.Prelude.{◌≡◌, ℕ, ◌+◌, ◌-◌, ◌*◌, ◌/◌, List, Option, Some, None, get_or}
use Rattle.std.specs.Mem.{type_size}
use denote.RattleType.{RattleType}
use denote.RawPtr.{Ptr, block_ptr, block_of, count_of}

-- the address of place i, where the first place is at an address
abbrev pub nth_address : RattleType → Ptr → ℕ → Ptr
nth_address R at i = block_ptr (block_of at) (i * type_size R + count_of at)

-- the number of the place at the address p
abbrev pub index_at : RattleType → Ptr → Ptr → ℕ
index_at R at p = (count_of p - count_of at) / type_size R

-- a place begins at the address p
abbrev pub IsAddress : RattleType → Ptr → Ptr → Type 0
IsAddress R at p = p ≡ nth_address R at (index_at R at p)

-- the place holds a value
abbrev pub IsFilled : {X : Type 0} → List (Option X) → ℕ → Type 0
IsFilled {X} places i = (x : X) × (get_or places i None ≡ Some x)
