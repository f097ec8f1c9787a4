-- The tokens of the line of a word, as the printer writes it.
use Rattle.std.specs.Prelude.{ℕ, List, [], ◌∷◌, codes, decimal, flat_map}
use Rattle.rv_inst.specs.declared.inst.Inst.{Inst}
use Rattle.rv_asm.specs.declared.operand.Operand.{Operand}
use Rattle.rv_asm.specs.InstNames.{name_text}
use Rattle.rv_asm.specs.AsmText.{operand_text, operands}

-- operands, with a comma before each but the first
abbrev pub operand_tokens : List Operand → List (List ℕ)
operand_tokens [] = []
operand_tokens (o ∷ os) = operand_text o ∷ flat_map (λ p. codes "," ∷ operand_text p ∷ []) os

-- an instruction: its name and its operands
abbrev pub inst_tokens : Inst → List (List ℕ)
inst_tokens i = name_text i ∷ operand_tokens (operands i)

-- a word: its instruction, or `.word` and its number where it has none
abbrev pub word_tokens : ℕ → List Inst → List (List ℕ)
word_tokens w [] = codes ".word" ∷ decimal w ∷ []
word_tokens w (i ∷ is) = inst_tokens i
