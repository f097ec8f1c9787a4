-- What the tokens of a printed word say: that word.
use Rattle.std.proofs.Common.{◌≡◌, ℕ, ◌^◌, ◌<◌, Bool, true, false, List, [], ◌∷◌, Option, Some, None, Result, Ok, Err, refl, ap, ◌∙◌, arith}
use Rattle.std.specs.Prelude.{codes}
use Rattle.std.specs.Fmt.{decimal}
use Rattle.std.specs.Option.{ok_or}
use Rattle.tam_word.specs.Words.{signed_text}
use Rattle.tam_word.specs.Numbers.{word_of}
use Rattle.tam_text.specs.Names.{is_name}
use Rattle.rv_inst.specs.declared.inst.Inst.{Inst}
use Rattle.rv_inst.specs.declared.inst.Inst.TheVariants.{R, I, Shift, Load, Store, Branch, Lui, Auipc, Jal, Jalr, Fence, Ecall, Ebreak}
use Rattle.rv_inst.specs.Instructions.{decoded}
use Rattle.rv_inst.specs.Ranges.{IsInRange}
use Rattle.rv_inst.proofs.Candidates.{decodes-truly}
use Rattle.rv_asm.specs.declared.asm_error.AsmCause.{AsmCause}
use Rattle.rv_asm.specs.declared.asm_error.AsmCause.TheVariants.{BadLine, BadNumber}
use Rattle.rv_asm.specs.declared.jump.Jump.{Jump}
use Rattle.rv_asm.specs.declared.jump.Jump.TheVariants as jump
use Rattle.rv_asm.specs.declared.verb.Verb.{Verb}
use Rattle.rv_asm.specs.declared.verb.Verb.TheVariants as verb
use Rattle.rv_asm.specs.InstNames.{verb_text}
use Rattle.rv_asm.specs.AsmText.{register, operand_text}
use Rattle.rv_asm.specs.declared.operand.Operand.TheVariants.{Address}
use Rattle.rv_asm.specs.Statements.{Word, Goto, Statement, Coded, then_read, signed_of, is_offset, immediate_of, number_below, register_of, is_text, number_of}
use Rattle.rv_asm.specs.Statements.{address_of, instruction, inst_by, going_by, going, with_second, with_third, said_by, said_if}
use Rattle.rv_asm.specs.Statements.{statement_of}
use Rattle.rv_asm.proofs.PlainTexts.{plain-signed_text, plain-no_name}
use Rattle.rv_asm.proofs.OperandsSaid.{register_said, word_of-decimal, number_below-decimal, signed_of-signed_text, offset_passes, branch_fits, jump_fits}
use Rattle.rv_asm.proofs.OperandsSaid.{number_said, signed_is_text, immediate_said, address_said}
use Rattle.rv_asm.proofs.VerbsCalled.{called}
use Rattle.rv_asm.proofs.Worded.{inst_tokens, word_tokens}

-- a verb with tokens behind it is no label
verb_said : (v : Verb) (t : List ℕ) (ts : List (List ℕ)) → statement_of (verb_text v ∷ t ∷ ts) ≡ said_by v (t ∷ ts)
verb_said v t ts = ap (λ (o : Option Verb). said_if o (t ∷ ts)) (called v)

-- with a printed register first
two_said : (v : Verb) (x : ℕ) (t : List ℕ) → x < 32 → statement_of (verb_text v ∷ register x ∷ codes "," ∷ t ∷ []) ≡ with_second v x t
two_said v x t lt =
    verb_said v (register x) (codes "," ∷ t ∷ []) ∙ ap (λ (o : Result ℕ AsmCause). then_read o (λ y. with_second v y t)) (register_said x lt)

-- with two
three_said : (v : Verb) (x y : ℕ) (t : List ℕ) → x < 32 → y < 32
    → statement_of (verb_text v ∷ register x ∷ codes "," ∷ register y ∷ codes "," ∷ t ∷ []) ≡ with_third v x y t
three_said v x y t lt less =
    verb_said v (register x) (codes "," ∷ register y ∷ codes "," ∷ t ∷ [])
    ∙ ap (λ (o : Result ℕ AsmCause). then_read o (λ z. then_read (register_of (register y)) (λ u. with_third v z u t))) (register_said x lt)
    ∙ ap (λ (o : Result ℕ AsmCause). then_read o (λ u. with_third v x u t)) (register_said y less)

-- ---- the last operand

-- by what is read
last_said : {X : Type 0} (o : Result X AsmCause) (x : X) (f : X → Result Statement AsmCause) → o ≡ Ok x → then_read o f ≡ f x
last_said {X} o x f e = ap (λ (p : Result X AsmCause). then_read p f) e

-- a printed number below a limit
below_said : (limit n : ℕ) → n < limit → n < 2 ^ 32 → number_of (number_below limit) (decimal n) ≡ Ok n
below_said limit n lt fits = number_said (number_below limit) n fits (number_below-decimal limit n lt fits)

-- a text that isn't a name stands for a number
by_name : (t u : Bool) (x y z : Result Statement AsmCause) → t ≡ true → u ≡ false → (elim t [ true ↦ elim u [ true ↦ x | false ↦ y ] | false ↦ z ]) ≡ y
by_name true true x y z e f = absurd cc
by_name true false x y z e f = refl
by_name false u x y z e f = absurd cc

-- a printed offset goes so far
going_said : (j : Jump) (off : ℕ) (i : Inst) → off < 2 ^ 32 → inst_by j off ≡ Some i → going j (signed_text off) ≡ instruction i
going_said j off i lt e =
    let t = signed_text off in
    by_name (is_text t) (is_name t) (Ok (Coded (Goto j t))) (going_by j (signed_of t)) (Err BadLine) (signed_is_text off lt)
    (plain-no_name t (plain-signed_text off lt))
    ∙ ap (going_by j) (signed_of-signed_text off lt) ∙ ap (λ (o : Option Inst). then_read (ok_or o BadNumber) instruction) e

-- an even offset in range has its instruction
by_offset : (t : Bool) (i : Inst) → t ≡ true → (elim t [ true ↦ Some i | false ↦ None ]) ≡ Some i
by_offset true i e = refl
by_offset false i e = absurd cc

-- ---- instructions and words

-- the tokens of an instruction say that instruction
inst_said : (i : Inst) → IsInRange i → statement_of (inst_tokens i) ≡ instruction i
inst_said (R n rd rs1 rs2) h =
    three_said (verb.Register n) rd rs1 (register rs2) h.0 h.1
    ∙ last_said (register_of (register rs2)) rs2 (λ z. instruction (R n rd rs1 z)) (register_said rs2 h.2)
inst_said (I n rd rs1 imm) h =
    three_said (verb.Immediate n) rd rs1 (signed_text imm) h.0 h.1
    ∙ last_said (number_of immediate_of (signed_text imm)) imm (λ z. instruction (I n rd rs1 z)) (immediate_said imm h.2)
inst_said (Shift n rd rs1 by) h =
    three_said (verb.Shift n) rd rs1 (decimal by) h.0 h.1
    ∙ last_said (number_of (number_below (2 ^ 5)) (decimal by)) by (λ z. instruction (Shift n rd rs1 z)) (below_said (2 ^ 5) by h.2 (omega (arith, h.2)))
inst_said (Load n rd rs1 imm) h =
    two_said (verb.Load n) rd (operand_text (Address imm rs1)) h.0
    ∙ last_said (address_of (operand_text (Address imm rs1))) (imm, rs1) (λ a. instruction (Load n rd a.1 a.0)) (address_said imm rs1 h.2 h.1)
inst_said (Store n rs1 rs2 imm) h =
    two_said (verb.Store n) rs2 (operand_text (Address imm rs1)) h.1
    ∙ last_said (address_of (operand_text (Address imm rs1))) (imm, rs1) (λ a. instruction (Store n a.1 rs2 a.0)) (address_said imm rs1 h.2 h.0)
inst_said (Branch n rs1 rs2 off) h =
    three_said (verb.Branch n) rs1 rs2 (signed_text off) h.0 h.1
    ∙ going_said (jump.Branch n rs1 rs2) off (Branch n rs1 rs2 off) (branch_fits off h.2)
    (by_offset (is_offset 13 off) (Branch n rs1 rs2 off) (offset_passes 13 off h.2 h.3))
inst_said (Lui rd imm) h =
    two_said verb.Lui rd (decimal imm) h.0
    ∙ last_said (number_of (number_below (2 ^ 20)) (decimal imm)) imm (λ n. instruction (Lui rd n)) (below_said (2 ^ 20) imm h.1 (omega (arith, h.1)))
inst_said (Auipc rd imm) h =
    two_said verb.Auipc rd (decimal imm) h.0
    ∙ last_said (number_of (number_below (2 ^ 20)) (decimal imm)) imm (λ n. instruction (Auipc rd n)) (below_said (2 ^ 20) imm h.1 (omega (arith, h.1)))
inst_said (Jal rd off) h =
    two_said verb.Jal rd (signed_text off) h.0
    ∙ going_said (jump.Jal rd) off (Jal rd off) (jump_fits off h.1) (by_offset (is_offset 21 off) (Jal rd off) (offset_passes 21 off h.1 h.2))
inst_said (Jalr rd rs1 imm) h =
    two_said verb.Jalr rd (operand_text (Address imm rs1)) h.0
    ∙ last_said (address_of (operand_text (Address imm rs1))) (imm, rs1) (λ a. instruction (Jalr rd a.1 a.0)) (address_said imm rs1 h.2 h.1)
inst_said (Fence rd rs1 bits) h =
    three_said verb.Fence rd rs1 (decimal bits) h.0 h.1
    ∙ last_said (number_of (number_below (2 ^ 12)) (decimal bits)) bits (λ z. instruction (Fence rd rs1 z)) (below_said (2 ^ 12) bits h.2 (omega (arith, h.2)))
inst_said Ecall h = refl
inst_said Ebreak h = refl

-- a word as `.word` and its number says that word
number_word_said : (w : ℕ) → w < 2 ^ 32 → statement_of (codes ".word" ∷ decimal w ∷ []) ≡ Ok (Coded (Word w))
number_word_said w lt =
    verb_said verb.Word (decimal w) []
    ∙ last_said (number_of word_of (decimal w)) w (λ v. Ok (Coded (Word v))) (number_said word_of w lt (word_of-decimal w lt))

-- the tokens of a word's line say that word
pub said_again : (w : ℕ) → w < 2 ^ 32 → statement_of (word_tokens w (decoded w)) ≡ Ok (Coded (Word w))
said_again w lt = go (decoded w) refl
  where
    go : (is : List Inst) → decoded w ≡ is → statement_of (word_tokens w is) ≡ Ok (Coded (Word w))
    go [] e = number_word_said w lt
    go (i ∷ is) e =
        let truly = decodes-truly w i is e in
        inst_said i truly.0 ∙ ap (λ (v : ℕ). let r : Result Statement AsmCause = Ok (Coded (Word v)) in r) truly.1
