-- The laws of words and instructions: they determine each other.
-- The rules in words: docs/MACHINE.md, "RV32IM".
use Rattle.std.specs.Prelude.{ℕ, ◌^◌, ◌≡◌, ◌≢◌, ◌<◌, List, [], ◌∷◌}
use Rattle.rv_inst.specs.declared.inst.Inst.{Inst}
use Rattle.rv_inst.specs.Instructions.{encoded, decoded}
use Rattle.rv_inst.specs.Ranges.{IsInRange}

-- the word of an instruction is one
abbrev pub WordsFit : Type 0
WordsFit = (i : Inst) → encoded i < 2 ^ 32

-- a word has at most one instruction
abbrev pub WordsDiffer : Type 0
WordsDiffer = (i j : Inst) → IsInRange i → IsInRange j → encoded i ≡ encoded j → i ≡ j

-- an instruction's word has that instruction
abbrev pub DecodesWords : Type 0
DecodesWords = (i : Inst) → IsInRange i → decoded (encoded i) ≡ i ∷ []

-- the instruction of a word is in range and has that word, and there is one at most
abbrev pub DecodesTruly : Type 0
DecodesTruly = (w : ℕ) (i : Inst) (is : List Inst) → decoded w ≡ i ∷ is → IsInRange i × (encoded i ≡ w) × (is ≡ [])

-- where a word has no instruction, none in range has it
abbrev pub NoneLeftOut : Type 0
NoneLeftOut = (w : ℕ) → decoded w ≡ [] → (i : Inst) → IsInRange i → encoded i ≢ w

-- and where none in range has it, it has none
abbrev pub NoneMadeUp : Type 0
NoneMadeUp = (w : ℕ) → ((i : Inst) → IsInRange i → encoded i ≢ w) → decoded w ≡ []
