-- Assembled and refused texts, by computation: words worked by hand or by an assembler, and each line and cause.
use Rattle.std.specs.Prelude.{◌≡◌, ℕ, refl, List, [], ◌∷◌, ◌++◌, codes, flat_map, map, take, Result, Ok}
use Rattle.rv_asm.specs.declared.asm_error.AsmCause.{AsmCause}
use Rattle.rv_asm.specs.declared.asm_error.AsmCause.TheVariants.{BadNumber, UnknownName, Ended}
use Rattle.rv_asm.specs.Faults.{asm_faults, said_in}
use Rattle.rv_asm.specs.Reading.{words_at}

-- lines with their LFs
abbrev pub text : List (List ℕ) → List ℕ
text ls = flat_map (λ l. l ++ 10 ∷ []) ls

-- lines behind a head
abbrev pub behind_head : List (List ℕ) → List ℕ
behind_head ls = text (codes ".image 1" ∷ codes ".stride 32" ∷ codes ".params 0" ∷ codes ".results 0" ∷ ls)

-- the first fault of lines behind a head
abbrev pub fault : List (List ℕ) → List (ℕ × AsmCause)
fault ls = take 1 (asm_faults (behind_head ls))

-- the words of a text
abbrev pub words_said : List ℕ → List (Result ℕ AsmCause)
words_said t = words_at (said_in t).labels 0 (map (λ p. p.1) (said_in t).words)

-- of lines behind a head
abbrev pub words : List (List ℕ) → List (Result ℕ AsmCause)
words ls = words_said (behind_head ls)

-- the least image
least : (asm_faults (behind_head (codes "ebreak" ∷ [])) ≡ []) × (words (codes "ebreak" ∷ []) ≡ Ok 1048691 ∷ [])
least = (refl, refl)

-- a number out of range, a label that isn't there, and no word
refused :
    (fault (codes "addi x1, x0, 2048" ∷ []) ≡ (5, BadNumber) ∷ []) × (fault (codes "beq x1, x0, far" ∷ []) ≡ (5, UnknownName) ∷ [])
    × (fault [] ≡ (5, Ended) ∷ [])
refused = (refl, refl, refl)

-- words of an assembler, one for each form
forms :
    words (codes "ecall" ∷ codes "ebreak" ∷ codes "addi x0, x0, 0" ∷ codes "addi x1,x0 , 0x5 # five" ∷ codes "mul x10, x11, x20" ∷ codes "bne x5, x0, 8"
    ∷ codes "beq x10, x0, -12" ∷ codes "jal x0, 48" ∷ codes "jal x0, -176" ∷ codes "beq x0, x0, 2048" ∷ codes "jal x0, 2048" ∷ codes "jalr x1, 248(x0)" ∷ [])
    ≡ Ok 0x00000073 ∷ Ok 0x00100073 ∷ Ok 0x00000013 ∷ Ok 0x00500093 ∷ Ok 0x03458533 ∷ Ok 0x00029463 ∷ Ok 0xfe050ae3 ∷ Ok 0x0300006f ∷ Ok 0xf51ff06f
    ∷ Ok 0x000000e3 ∷ Ok 0x0010006f ∷ Ok 0x0f8000e7 ∷ []
forms = refl

-- and for the others
other_forms :
    words (codes "lui x5, 524288" ∷ codes "srai x7, x6, 4" ∷ codes "lw x5, 12(x10)" ∷ codes "sw x13, 0(x6)" ∷ codes "fence x0, x0, 255" ∷ codes "auipc x5, 1"
    ∷ codes ".word -1" ∷ [])
    ≡ Ok 0x800002b7 ∷ Ok 0x40435393 ∷ Ok 0x00c52283 ∷ Ok 0x00d32023 ∷ Ok 0x0ff0000f ∷ Ok 0x00001297 ∷ Ok 0xffffffff ∷ []
other_forms = refl

-- words of an assembler for a branch and a jump to labels on either side
labels :
    words (codes "back:" ∷ codes "bne x5, x6, on" ∷ codes "jal x1, back" ∷ codes "on:" ∷ codes "beq x10, x0, back" ∷ [])
    ≡ Ok 6460515 ∷ Ok 4292866287 ∷ Ok 4261743843 ∷ []
labels = refl
