-- A word's own fields, packed as each format says, are the word.
use Rattle.std.proofs.Common.{◌≡◌, ℕ, ◌%◌, ◌^◌, ◌<◌, [], ◌∷◌, arith, inl, inr}
use Rattle.rv_inst.specs.Fields.{packed, bits, part, extended, rd_of, rs1_of, rs2_of, i_imm, s_imm, b_off, j_off}
use Rattle.rv_inst.specs.Instructions.{r_word, i_word, s_word, b_word, u_word, j_word}
use Rattle.rv_inst.proofs.Fields.{packed-below}
use Rattle.rv_inst.proofs.Signed.{part-below, small-extended, large-extended, below-or-not}

-- the low 12 bits of an extended field of 12
low-12 : (v : ℕ) → v < 2 ^ 12 → extended 12 v % 2 ^ 12 ≡ v
low-12 v h = elim (below-or-not v 2048) [
  | inl l ↦ rw (small-extended 12 v l) (omega arith)
  | inr r ↦ rw (large-extended 12 v r) (omega arith)
]

-- of 13
low-13 : (v : ℕ) → v < 2 ^ 13 → extended 13 v % 2 ^ 13 ≡ v
low-13 v h = elim (below-or-not v 4096) [
  | inl l ↦ rw (small-extended 13 v l) (omega arith)
  | inr r ↦ rw (large-extended 13 v r) (omega arith)
]

-- of 21
low-21 : (v : ℕ) → v < 2 ^ 21 → extended 21 v % 2 ^ 21 ≡ v
low-21 v h = elim (below-or-not v 1048576) [
  | inl l ↦ rw (small-extended 21 v l) (omega arith)
  | inr r ↦ rw (large-extended 21 v r) (omega arith)
]

-- two sources and a target
pub r-whole : (w g f o : ℕ) → w < 2 ^ 32 → g ≡ part w 25 7 → f ≡ part w 12 3 → o ≡ part w 0 7 → r_word g (rs2_of w) (rs1_of w) f (rd_of w) o ≡ w
r-whole w g f o h p q r = omega arith

-- a number in range in one piece of 12 bits
pub i-bits : (w v f o : ℕ) → w < 2 ^ 32 → v % 2 ^ 12 ≡ part w 20 12 → f ≡ part w 12 3 → o ≡ part w 0 7 → i_word v (rs1_of w) f (rd_of w) o ≡ w
i-bits w v f o h e q r = omega arith

-- a source, a target and 12 bits
pub i-whole : (w f o : ℕ) → w < 2 ^ 32 → f ≡ part w 12 3 → o ≡ part w 0 7 → i_word (i_imm w) (rs1_of w) f (rd_of w) o ≡ w
i-whole w f o h q r = i-bits w (i_imm w) f o h (low-12 (part w 20 12) (part-below w 20 12)) q r

-- two sources and 12 bits, in two pieces
s-bits : (w v f o : ℕ) → w < 2 ^ 32 → v % 2 ^ 12 ≡ packed (bits w 25 7 ∷ bits w 7 5 ∷ []) → f ≡ part w 12 3 → o ≡ part w 0 7
    → s_word v (rs2_of w) (rs1_of w) f o ≡ w
s-bits w v f o h e q r = omega arith

-- a store
pub s-whole : (w f o : ℕ) → w < 2 ^ 32 → f ≡ part w 12 3 → o ≡ part w 0 7 → s_word (s_imm w) (rs2_of w) (rs1_of w) f o ≡ w
s-whole w f o h q r = s-bits w (s_imm w) f o h (low-12 (packed (bits w 25 7 ∷ bits w 7 5 ∷ [])) (packed-below (bits w 25 7 ∷ bits w 7 5 ∷ []))) q r

-- two sources and an offset, from the offset's pieces
b-pieces : (w v f o : ℕ) → w < 2 ^ 32 → part v 12 1 ≡ part w 31 1 → part v 11 1 ≡ part w 7 1 → part v 5 6 ≡ part w 25 6 → part v 1 4 ≡ part w 8 4
    → f ≡ part w 12 3 → o ≡ part w 0 7 → b_word v (rs2_of w) (rs1_of w) f o ≡ w
b-pieces w v f o h a b c d q r = omega arith

-- the pieces of a number of 13 bits
pieces-13 : (v a b c d : ℕ) → a < 2 → b < 2 → c < 64 → d < 16 → v % 2 ^ 13 ≡ packed ((a, 1) ∷ (b, 1) ∷ (c, 6) ∷ (d, 4) ∷ (0, 1) ∷ [])
    → (part v 12 1 ≡ a) × (part v 11 1 ≡ b) × (part v 5 6 ≡ c) × (part v 1 4 ≡ d)
pieces-13 v a b c d p q r s e = (omega arith, omega arith, omega arith, omega arith)

-- two sources and an offset
b-bits : (w v f o : ℕ) → w < 2 ^ 32 → v % 2 ^ 13 ≡ packed (bits w 31 1 ∷ bits w 7 1 ∷ bits w 25 6 ∷ bits w 8 4 ∷ (0, 1) ∷ []) → f ≡ part w 12 3
    → o ≡ part w 0 7 → b_word v (rs2_of w) (rs1_of w) f o ≡ w
b-bits w v f o h e q r =
    let p = pieces-13 v (part w 31 1) (part w 7 1) (part w 25 6) (part w 8 4) (part-below w 31 1) (part-below w 7 1) (part-below w 25 6)
    (part-below w 8 4) e in
    b-pieces w v f o h p.0 p.1 p.2 p.3 q r

-- a branch
pub b-whole : (w f o : ℕ) → w < 2 ^ 32 → f ≡ part w 12 3 → o ≡ part w 0 7 → b_word (b_off w) (rs2_of w) (rs1_of w) f o ≡ w
b-whole w f o h q r =
    b-bits w (b_off w) f o h (low-13 (packed (bits w 31 1 ∷ bits w 7 1 ∷ bits w 25 6 ∷ bits w 8 4 ∷ (0, 1) ∷ []))
    (packed-below (bits w 31 1 ∷ bits w 7 1 ∷ bits w 25 6 ∷ bits w 8 4 ∷ (0, 1) ∷ []))) q r

-- a target and 20 bits
pub u-whole : (w o : ℕ) → w < 2 ^ 32 → o ≡ part w 0 7 → u_word (part w 12 20) (rd_of w) o ≡ w
u-whole w o h r = omega arith

-- a target and an offset
j-bits : (w v o : ℕ) → w < 2 ^ 32 → v % 2 ^ 21 ≡ packed (bits w 31 1 ∷ bits w 12 8 ∷ bits w 20 1 ∷ bits w 21 10 ∷ (0, 1) ∷ []) → o ≡ part w 0 7
    → j_word v (rd_of w) o ≡ w
j-bits w v o h e r = omega arith

-- a jump
pub j-whole : (w o : ℕ) → w < 2 ^ 32 → o ≡ part w 0 7 → j_word (j_off w) (rd_of w) o ≡ w
j-whole w o h r =
    j-bits w (j_off w) o h (low-21 (packed (bits w 31 1 ∷ bits w 12 8 ∷ bits w 20 1 ∷ bits w 21 10 ∷ (0, 1) ∷ []))
    (packed-below (bits w 31 1 ∷ bits w 12 8 ∷ bits w 20 1 ∷ bits w 21 10 ∷ (0, 1) ∷ []))) r
