-- The fields of a word: numbers side by side, the bits of a word at a place, and a field's sign.
-- The RISC-V Instruction Set Manual, Volume I, version 20191213, "Base Instruction Formats" and "Immediate Encoding Variants".
use Rattle.std.specs.Prelude.{ℕ, ◌+◌, ◌-◌, ◌*◌, ◌/◌, ◌%◌, ◌^◌, ◌<◌, ◌≤◌, nat_lt, List, [], ◌∷◌, if◌then◌else◌, ◌⊎◌}

-- the width of fields with their widths, from bit 31 down
abbrev pub width_of : List (ℕ × ℕ) → ℕ
width_of [] = 0
width_of (f ∷ fs) = f.1 + width_of fs

-- the number that they make
abbrev pub packed : List (ℕ × ℕ) → ℕ
packed [] = 0
packed (f ∷ fs) = f.0 % 2 ^ f.1 * 2 ^ width_of fs + packed fs

-- bits low to low + width - 1 of a word, as a field
abbrev pub bits : ℕ → ℕ → ℕ → ℕ × ℕ
bits w low width = (w / 2 ^ low % 2 ^ width, width)

-- the number of these bits
abbrev pub part : ℕ → ℕ → ℕ → ℕ
part w low width = (bits w low width).0

-- a field of n bits with its sign repeated up to bit 31
abbrev pub extended : ℕ → ℕ → ℕ
extended n v = if nat_lt v (2 ^ (n - 1)) then v else v + (2 ^ 32 - 2 ^ n)

-- the word is a signed number of n bits
abbrev pub IsSigned : ℕ → ℕ → Type 0
IsSigned n v = (v < 2 ^ (n - 1)) ⊎ ((2 ^ 32 - 2 ^ (n - 1) ≤ v) × (v < 2 ^ 32))

-- ---- the fields of a word

-- the field of the target register
abbrev pub rd_of : ℕ → ℕ
rd_of w = part w 7 5

-- of the first source
abbrev pub rs1_of : ℕ → ℕ
rs1_of w = part w 15 5

-- of the second source
abbrev pub rs2_of : ℕ → ℕ
rs2_of w = part w 20 5

-- the immediate of 12 bits in one field
abbrev pub i_imm : ℕ → ℕ
i_imm w = extended 12 (part w 20 12)

-- a store's immediate
abbrev pub s_imm : ℕ → ℕ
s_imm w = extended 12 (packed (bits w 25 7 ∷ bits w 7 5 ∷ []))

-- a branch's offset
abbrev pub b_off : ℕ → ℕ
b_off w = extended 13 (packed (bits w 31 1 ∷ bits w 7 1 ∷ bits w 25 6 ∷ bits w 8 4 ∷ (0, 1) ∷ []))

-- a jump's offset
abbrev pub j_off : ℕ → ℕ
j_off w = extended 21 (packed (bits w 31 1 ∷ bits w 12 8 ∷ bits w 20 1 ∷ bits w 21 10 ∷ (0, 1) ∷ []))
