-- Names of instructions and their operands are words of plain bytes.
use Rattle.std.proofs.Common.{◌≡◌, ℕ, ◌^◌, ◌<◌, ◌≤◌, List, [], ◌∷◌, ◌++◌, Bool, true, refl, sym, ap, arith, length, true≢false, ◌&&◌}
use Rattle.std.proofs.Common.{nat_le, map, append_assoc, ◌∙◌}
use Rattle.std.specs.Prelude.{decimal, codes}
use Rattle.std.proofs.lemmas.Bool.{leb-true}
use Rattle.tam_word.specs.Lists.{all_of}
use Rattle.tam_word.specs.Words.{signed_text}
use Rattle.tam_word.proofs.Tests.{both-true}
use Rattle.rv_inst.specs.declared.r_name.RName.{RName}
use Rattle.rv_inst.specs.declared.r_name.RName.TheVariants.{Add as R_add, Sub as R_sub, Sll as R_sll, Slt as R_slt, Sltu as R_sltu, Xor as R_xor}
use Rattle.rv_inst.specs.declared.r_name.RName.TheVariants.{Srl as R_srl, Sra as R_sra, Or as R_or, And as R_and, Mul as R_mul, Mulh as R_mulh}
use Rattle.rv_inst.specs.declared.r_name.RName.TheVariants.{Mulhsu as R_mulhsu, Mulhu as R_mulhu, Div as R_div, Divu as R_divu, Rem as R_rem, Remu as R_remu}
use Rattle.rv_inst.specs.declared.i_name.IName.{IName}
use Rattle.rv_inst.specs.declared.i_name.IName.TheVariants.{Addi, Slti, Sltiu, Xori, Ori, Andi}
use Rattle.rv_inst.specs.declared.shift_name.ShiftName.{ShiftName}
use Rattle.rv_inst.specs.declared.shift_name.ShiftName.TheVariants.{Slli, Srli, Srai}
use Rattle.rv_inst.specs.declared.load_name.LoadName.{LoadName}
use Rattle.rv_inst.specs.declared.load_name.LoadName.TheVariants.{Lb, Lh, Lw, Lbu, Lhu}
use Rattle.rv_inst.specs.declared.store_name.StoreName.{StoreName}
use Rattle.rv_inst.specs.declared.store_name.StoreName.TheVariants.{Sb, Sh, Sw}
use Rattle.rv_inst.specs.declared.branch_name.BranchName.{BranchName}
use Rattle.rv_inst.specs.declared.branch_name.BranchName.TheVariants.{Beq, Bne, Blt, Bge, Bltu, Bgeu}
use Rattle.rv_inst.specs.declared.inst.Inst.{Inst}
use Rattle.rv_inst.specs.declared.inst.Inst.TheVariants.{R, I, Shift, Load, Store, Branch, Lui, Auipc, Jal, Jalr, Fence, Ecall, Ebreak}
use Rattle.rv_inst.specs.Ranges.{IsInRange}
use Rattle.rv_asm.specs.declared.operand.Operand.{Operand}
use Rattle.rv_asm.specs.declared.operand.Operand.TheVariants.{Register, Number, Signed, Address}
use Rattle.rv_asm.specs.declared.verb.Verb.{Verb}
use Rattle.rv_asm.specs.declared.verb.Verb.TheVariants as verb
use Rattle.rv_asm.specs.InstNames.{register_text, immediate_text, shift_text, load_text, store_text, branch_text, verb_text}
use Rattle.rv_asm.specs.AsmText.{register, operand_text, operands}
use Rattle.tam_text.proofs.PlainWords.{is_plain, is_word, all-more, all-both, decimal-plain, decimal-word, signed-word}
use Rattle.rv_asm.proofs.OperandsSaid.{immediate_fits, branch_fits, jump_fits}

-- ---- operands

-- a register
register-word : (r : ℕ) → r < 32 → is_word (register r) ≡ true
register-word r l = decimal-plain r (omega arith)

-- a word before plain bytes
word-before : (w bs : List ℕ) → is_word w ≡ true → all_of is_plain bs ≡ true → is_word (w ++ bs) ≡ true
word-before [] bs h k = absurd (true≢false (sym h))
word-before (b ∷ w) bs h k = all-both is_plain (b ∷ w) bs h k

-- what is written of an immediate and a register, from the front
pub address-same : (number name : List ℕ) → number ++ codes "(" ++ name ++ codes ")" ≡ number ++ (40 ∷ (name ++ codes ")"))
address-same number name =
    append_assoc (number ++ codes "(") name (codes ")") ∙ append_assoc number (codes "(") (name ++ codes ")")

-- an immediate and a register
address-word : (w r : ℕ) → w < 2 ^ 32 → r < 32 → is_word (signed_text w ++ codes "(" ++ register r ++ codes ")") ≡ true
address-word w r l m =
    ap is_word (address-same (signed_text w) (register r))
    ∙ word-before (signed_text w) (40 ∷ (register r ++ codes ")")) (signed-word w l)
    (all-both is_plain (decimal r) (codes ")") (decimal-plain r (omega arith)) refl)

-- two operands
two : (o p : Operand) → is_word (operand_text o) ≡ true → is_word (operand_text p) ≡ true → all_of is_word (map operand_text (o ∷ p ∷ [])) ≡ true
two o p a b = all-more is_word (operand_text o) (operand_text p ∷ []) a (all-more is_word (operand_text p) [] b refl)

-- three
three : (o p q : Operand) → is_word (operand_text o) ≡ true → is_word (operand_text p) ≡ true → is_word (operand_text q) ≡ true
    → all_of is_word (map operand_text (o ∷ p ∷ q ∷ [])) ≡ true
three o p q a b c = all-more is_word (operand_text o) (operand_text p ∷ operand_text q ∷ []) a (two p q b c)

-- the operands of an instruction in range
pub operands-words : (i : Inst) → IsInRange i → all_of is_word (map operand_text (operands i)) ≡ true
operands-words (R n rd rs1 rs2) h = three (Register rd) (Register rs1) (Register rs2) (register-word rd h.0) (register-word rs1 h.1) (register-word rs2 h.2)
operands-words (I n rd rs1 imm) h =
    three (Register rd) (Register rs1) (Signed imm) (register-word rd h.0) (register-word rs1 h.1) (signed-word imm (immediate_fits imm h.2))
operands-words (Shift n rd rs1 by) h =
    let l = h.2 in three (Register rd) (Register rs1) (Number by) (register-word rd h.0) (register-word rs1 h.1) (decimal-word by (omega arith))
operands-words (Load n rd rs1 imm) h = two (Register rd) (Address imm rs1) (register-word rd h.0) (address-word imm rs1 (immediate_fits imm h.2) h.1)
operands-words (Store n rs1 rs2 imm) h = two (Register rs2) (Address imm rs1) (register-word rs2 h.1) (address-word imm rs1 (immediate_fits imm h.2) h.0)
operands-words (Branch n rs1 rs2 off) h =
    three (Register rs1) (Register rs2) (Signed off) (register-word rs1 h.0) (register-word rs2 h.1) (signed-word off (branch_fits off h.2))
operands-words (Lui rd imm) h = let l = h.1 in two (Register rd) (Number imm) (register-word rd h.0) (decimal-word imm (omega arith))
operands-words (Auipc rd imm) h = let l = h.1 in two (Register rd) (Number imm) (register-word rd h.0) (decimal-word imm (omega arith))
operands-words (Jal rd off) h = two (Register rd) (Signed off) (register-word rd h.0) (signed-word off (jump_fits off h.1))
operands-words (Jalr rd rs1 imm) h = two (Register rd) (Address imm rs1) (register-word rd h.0) (address-word imm rs1 (immediate_fits imm h.2) h.1)
operands-words (Fence rd rs1 bits) h =
    let l = h.2 in three (Register rd) (Register rs1) (Number bits) (register-word rd h.0) (register-word rs1 h.1) (decimal-word bits (omega arith))
operands-words Ecall h = refl
operands-words Ebreak h = refl

-- ---- names

-- a word of at most six bytes
abbrev is_name : List ℕ → Bool
is_name bytes = is_word bytes && nat_le (length bytes) 6

-- of instructions on two registers
register-name : (n : RName) → is_name (register_text n) ≡ true
register-name R_add = refl
register-name R_sub = refl
register-name R_sll = refl
register-name R_slt = refl
register-name R_sltu = refl
register-name R_xor = refl
register-name R_srl = refl
register-name R_sra = refl
register-name R_or = refl
register-name R_and = refl
register-name R_mul = refl
register-name R_mulh = refl
register-name R_mulhsu = refl
register-name R_mulhu = refl
register-name R_div = refl
register-name R_divu = refl
register-name R_rem = refl
register-name R_remu = refl

-- of instructions on a register and an immediate
immediate-name : (n : IName) → is_name (immediate_text n) ≡ true
immediate-name Addi = refl
immediate-name Slti = refl
immediate-name Sltiu = refl
immediate-name Xori = refl
immediate-name Ori = refl
immediate-name Andi = refl

-- of shifts by a number
shift-name : (n : ShiftName) → is_name (shift_text n) ≡ true
shift-name Slli = refl
shift-name Srli = refl
shift-name Srai = refl

-- of loads
load-name : (n : LoadName) → is_name (load_text n) ≡ true
load-name Lb = refl
load-name Lh = refl
load-name Lw = refl
load-name Lbu = refl
load-name Lhu = refl

-- of stores
store-name : (n : StoreName) → is_name (store_text n) ≡ true
store-name Sb = refl
store-name Sh = refl
store-name Sw = refl

-- of branches
branch-name : (n : BranchName) → is_name (branch_text n) ≡ true
branch-name Beq = refl
branch-name Bne = refl
branch-name Blt = refl
branch-name Bge = refl
branch-name Bltu = refl
branch-name Bgeu = refl

-- how a verb is written
verb-name : (v : Verb) → is_name (verb_text v) ≡ true
verb-name (verb.Register n) = register-name n
verb-name (verb.Immediate n) = immediate-name n
verb-name (verb.Shift n) = shift-name n
verb-name (verb.Load n) = load-name n
verb-name (verb.Store n) = store-name n
verb-name (verb.Branch n) = branch-name n
verb-name verb.Lui = refl
verb-name verb.Auipc = refl
verb-name verb.Jal = refl
verb-name verb.Jalr = refl
verb-name verb.Fence = refl
verb-name verb.Ecall = refl
verb-name verb.Ebreak = refl
verb-name verb.Word = refl

-- is a word
pub verb-word : (v : Verb) → is_word (verb_text v) ≡ true
verb-word v = (both-true (is_word (verb_text v)) (nat_le (length (verb_text v)) 6) (verb-name v)).0

-- and is short
pub verb-short : (v : Verb) → length (verb_text v) ≤ 6
verb-short v = leb-true (length (verb_text v)) 6 (both-true (is_word (verb_text v)) (nat_le (length (verb_text v)) 6) (verb-name v)).1
