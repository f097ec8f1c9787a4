-- What the parts of a block own and lend, at values of the row R.
use Rattle.std.specs.Prelude.{ℕ, ◌+◌, ◌*◌, ◌^◌, List, [], ◌∷◌, length, Option, Some, None}
use Rattle.std.specs.Mem.{type_size}
use base.Fraction.{full_share}
use base.Fml.{Lft, Fml, ftrue, ffalse, fsep, flt, froom}
use mir.Syntax.{Ty, ty_array}
use mir.Raw.{raw}
use denote.RattleType.{RattleType}
use denote.Memory.{lone, part_at, shared_of}
use denote.Sharing.{nothing, said, beside}
use denote.RawPtr.{Ptr, block_ptr, null_ptr}

module _ (R : RattleType) where
  -- one place, o bytes into the block b
  abbrev pub place : ℕ → ℕ → Option R.Denot → Fml
  place b o (Some x) = part_at R full_share x b o
  place b o None = froom (raw (lone R.mir)) b o

  -- places side by side
  abbrev pub side_by_side : ℕ → ℕ → List (Option R.Denot) → Fml
  side_by_side b o [] = ftrue
  side_by_side b o (c ∷ cs) = fsep (place b o c) (side_by_side b (o + type_size R) cs)

  -- one place, behind a reference
  abbrev pub place_lent : ℕ → ℕ → Option R.Denot → Lft → Fml
  place_lent b o (Some x) = shared_of R x b o
  place_lent b o None = nothing

  -- places side by side, behind a reference
  abbrev pub side_by_side_lent : ℕ → ℕ → List (Option R.Denot) → Lft → Fml
  side_by_side_lent b o [] = nothing
  side_by_side_lent b o (c ∷ cs) = beside (place_lent b o c) (side_by_side_lent b (o + type_size R) cs)

  -- the places take fewer than 2 ^ 63 bytes
  abbrev pub fit : List (Option R.Denot) → Fml
  fit cs = flt (length cs * type_size R) (2 ^ 63)

  -- the places of a block from an address on
  abbrev pub memory_owns : Ptr → List (Option R.Denot) → Fml
  memory_owns (block_ptr b o) cs = fsep (fit cs) (side_by_side b o cs)
  memory_owns null_ptr cs = ffalse

  -- the same behind a reference
  abbrev pub memory_lent : Ptr → List (Option R.Denot) → Lft → Fml
  memory_lent (block_ptr b o) cs = beside (said (fit cs)) (side_by_side_lent b o cs)
  memory_lent null_ptr cs = said ffalse

  -- the allocator's token for a block of n places
  abbrev pub deed_owns : (Ty → Ptr → Fml) → Ptr → ℕ → Fml
  deed_owns token p n = token (raw (ty_array (lone R.mir) n)) p
