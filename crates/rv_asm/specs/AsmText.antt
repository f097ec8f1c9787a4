-- The assembly text of an image.
-- The rule in words: docs/MACHINE.md, "Assembly text".
use Rattle.std.specs.Prelude.{ℕ, List, [], ◌∷◌, ◌++◌, codes, decimal, flat_map}
use Rattle.tam_word.specs.Words.{signed_text}
use Rattle.rv_inst.specs.declared.inst.Inst.{Inst}
use Rattle.rv_inst.specs.declared.inst.Inst.TheVariants.{R, I, Shift, Load, Store, Branch, Lui, Auipc, Jal, Jalr, Fence, Ecall, Ebreak}
use Rattle.rv_inst.specs.Instructions.{decoded}
use Rattle.rv_inst.specs.Images.{Image}
use Rattle.rv_asm.specs.declared.operand.Operand.{Operand}
use Rattle.rv_asm.specs.declared.operand.Operand.TheVariants.{Register, Number, Signed, Address}
use Rattle.rv_asm.specs.InstNames.{name_text}

-- a register
abbrev pub register : ℕ → List ℕ
register r = codes "x" ++ decimal r

-- an operand
abbrev pub operand_text : Operand → List ℕ
operand_text (Register r) = register r
operand_text (Number n) = decimal n
operand_text (Signed w) = signed_text w
operand_text (Address w r) = signed_text w ++ codes "(" ++ register r ++ codes ")"

-- the operands of an instruction
abbrev pub operands : Inst → List Operand
operands (R n rd rs1 rs2) = Register rd ∷ Register rs1 ∷ Register rs2 ∷ []
operands (I n rd rs1 imm) = Register rd ∷ Register rs1 ∷ Signed imm ∷ []
operands (Shift n rd rs1 by) = Register rd ∷ Register rs1 ∷ Number by ∷ []
operands (Load n rd rs1 imm) = Register rd ∷ Address imm rs1 ∷ []
operands (Store n rs1 rs2 imm) = Register rs2 ∷ Address imm rs1 ∷ []
operands (Branch n rs1 rs2 off) = Register rs1 ∷ Register rs2 ∷ Signed off ∷ []
operands (Lui rd imm) = Register rd ∷ Number imm ∷ []
operands (Auipc rd imm) = Register rd ∷ Number imm ∷ []
operands (Jal rd off) = Register rd ∷ Signed off ∷ []
operands (Jalr rd rs1 imm) = Register rd ∷ Address imm rs1 ∷ []
operands (Fence rd rs1 bits) = Register rd ∷ Register rs1 ∷ Number bits ∷ []
operands Ecall = []
operands Ebreak = []

-- operands behind the first
abbrev pub further_operands : List Operand → List ℕ
further_operands os = flat_map (λ o. codes ", " ++ operand_text o) os

-- operands behind the name
abbrev pub operands_text : List Operand → List ℕ
operands_text [] = []
operands_text (o ∷ os) = codes " " ++ operand_text o ++ further_operands os

-- an instruction
abbrev pub inst_text : Inst → List ℕ
inst_text i = name_text i ++ operands_text (operands i)

-- a word, as its instruction where it is one
abbrev pub word_text : ℕ → List Inst → List ℕ
word_text w [] = codes ".word " ++ decimal w
word_text w (i ∷ is) = inst_text i

-- the line of a word
abbrev pub word_line : ℕ → List ℕ
word_line w = word_text w (decoded w) ++ codes "\n"

-- a head line
abbrev pub head_line : List ℕ → ℕ → List ℕ
head_line word n = word ++ decimal n ++ codes "\n"

-- the text of an image
abbrev pub asm_text : Image → List ℕ
asm_text image =
    head_line (codes ".image ") 1 ++ head_line (codes ".stride ") image.stride ++ head_line (codes ".params ") image.params
    ++ head_line (codes ".results ") image.results ++ flat_map word_line image.words
