-- The text that is printed of an image isn't too long to be assembled.
use Rattle.std.proofs.Common.{◌≡◌, ℕ, suc, ◌+◌, ◌-◌, ◌*◌, ◌^◌, ◌<◌, ◌≤◌, List, [], ◌∷◌, ◌++◌, Bool, true, false, refl, sym, ap, subst, arith, length}
use Rattle.std.proofs.Common.{cond, flat_map, nat_lt}
use Rattle.std.specs.Prelude.{⊤, codes, decimal}
use Rattle.std.proofs.lemmas.List.{length-append}
use Rattle.std.proofs.lemmas.Fmt.{length-decimal-le}
use Rattle.tam_word.specs.Words.{signed_text}
use Rattle.rv_inst.specs.declared.inst.Inst.{Inst}
use Rattle.rv_inst.specs.declared.inst.Inst.TheVariants.{R, I, Shift, Load, Store, Branch, Lui, Auipc, Jal, Jalr, Fence, Ecall, Ebreak}
use Rattle.rv_inst.specs.Instructions.{decoded}
use Rattle.rv_inst.specs.Images.{Image}
use Rattle.rv_inst.specs.Ranges.{IsInRange}
use Rattle.rv_inst.proofs.Candidates.{decodes-truly}
use Rattle.rv_image.specs.ImageFiles.{max_words, max_places}
use Rattle.rv_image.specs.ImageFiles.{IsImage}
use Rattle.rv_image.specs.ImageLaws.{AreBelow}
use Rattle.rv_asm.specs.declared.operand.Operand.{Operand}
use Rattle.rv_asm.specs.declared.operand.Operand.TheVariants.{Register, Number, Signed, Address}
use Rattle.rv_asm.specs.InstNames.{name_text, verb_of}
use Rattle.rv_asm.specs.AsmText.{register, operand_text, operands, further_operands, operands_text, inst_text, word_text, word_line, head_line, asm_text}
use Rattle.rv_asm.proofs.OperandsSaid.{immediate_fits, branch_fits, jump_fits}
use Rattle.rv_asm.proofs.TokenBytes.{address-same, verb-short}
use Rattle.rv_asm.proofs.PrintedReads.{stride-small, text-same}

-- ---- operands

-- a number
number-short : (n : ℕ) → n < 2 ^ 32 → length (decimal n) ≤ 10
number-short n l = length-decimal-le 10 n (omega arith) (omega arith) (omega arith)

-- a signed one
signed-short : (w : ℕ) → w < 2 ^ 32 → length (signed_text w) ≤ 11
signed-short w l = go (nat_lt w (2 ^ 31)) refl
  where
    go : (t : Bool) → nat_lt w (2 ^ 31) ≡ t → length (cond t (decimal w) (45 ∷ decimal (2 ^ 32 - w))) ≤ 11
    go true e = let z = number-short w l in omega arith
    go false e = let z = length-decimal-le 10 (2 ^ 32 - w) (omega arith) (omega arith) (omega arith) in omega arith

-- a register
register-short : (r : ℕ) → r < 32 → length (register r) ≤ 11
register-short r l = let z = number-short r (omega arith) in omega arith

-- an immediate and a register
address-short : (w r : ℕ) → w < 2 ^ 32 → r < 32 → length (signed_text w ++ codes "(" ++ register r ++ codes ")") ≤ 24
address-short w r l m =
    let number = signed-short w l in
    let name = register-short r m in
    let same = ap length (address-same (signed_text w) (register r)) in
    let whole = length-append (signed_text w) (40 ∷ (register r ++ codes ")")) in
    let end = length-append (register r) (codes ")") in
    omega arith

-- no operand has more than 24 bytes
abbrev AreShort : List Operand → Type 0
AreShort [] = ⊤
AreShort (o ∷ os) = (length (operand_text o) ≤ 24) × AreShort os

-- there are three at most, and they are short
abbrev AreFew : List Operand → Type 0
AreFew os = (length os ≤ 3) × AreShort os

-- none
no-operands : AreFew []
no-operands = (omega arith, tt)

-- two operands
two-short : (o p : Operand) → length (operand_text o) ≤ 24 → length (operand_text p) ≤ 24 → AreFew (o ∷ p ∷ [])
two-short o p a b = (omega arith, (a, (b, tt)))

-- three
three-short : (o p q : Operand) → length (operand_text o) ≤ 24 → length (operand_text p) ≤ 24 → length (operand_text q) ≤ 24
    → AreFew (o ∷ p ∷ q ∷ [])
three-short o p q a b c = (omega arith, (a, (b, (c, tt))))

-- a register as an operand
named : (r : ℕ) → r < 32 → length (register r) ≤ 24
named r l = let z = register-short r l in omega arith

-- a number as one
numbered : (n : ℕ) → n < 2 ^ 32 → length (decimal n) ≤ 24
numbered n l = let z = number-short n l in omega arith

-- a signed one
signed : (w : ℕ) → w < 2 ^ 32 → length (signed_text w) ≤ 24
signed w l = let z = signed-short w l in omega arith

-- the operands of an instruction in range
operands-few : (i : Inst) → IsInRange i → AreFew (operands i)
operands-few (R n rd rs1 rs2) h = three-short (Register rd) (Register rs1) (Register rs2) (named rd h.0) (named rs1 h.1) (named rs2 h.2)
operands-few (I n rd rs1 imm) h = three-short (Register rd) (Register rs1) (Signed imm) (named rd h.0) (named rs1 h.1) (signed imm (immediate_fits imm h.2))
operands-few (Shift n rd rs1 by) h =
    let l = h.2 in three-short (Register rd) (Register rs1) (Number by) (named rd h.0) (named rs1 h.1) (numbered by (omega arith))
operands-few (Load n rd rs1 imm) h = two-short (Register rd) (Address imm rs1) (named rd h.0) (address-short imm rs1 (immediate_fits imm h.2) h.1)
operands-few (Store n rs1 rs2 imm) h = two-short (Register rs2) (Address imm rs1) (named rs2 h.1) (address-short imm rs1 (immediate_fits imm h.2) h.0)
operands-few (Branch n rs1 rs2 off) h =
    three-short (Register rs1) (Register rs2) (Signed off) (named rs1 h.0) (named rs2 h.1) (signed off (branch_fits off h.2))
operands-few (Lui rd imm) h = let l = h.1 in two-short (Register rd) (Number imm) (named rd h.0) (numbered imm (omega arith))
operands-few (Auipc rd imm) h = let l = h.1 in two-short (Register rd) (Number imm) (named rd h.0) (numbered imm (omega arith))
operands-few (Jal rd off) h = two-short (Register rd) (Signed off) (named rd h.0) (signed off (jump_fits off h.1))
operands-few (Jalr rd rs1 imm) h = two-short (Register rd) (Address imm rs1) (named rd h.0) (address-short imm rs1 (immediate_fits imm h.2) h.1)
operands-few (Fence rd rs1 bits) h =
    let l = h.2 in three-short (Register rd) (Register rs1) (Number bits) (named rd h.0) (named rs1 h.1) (numbered bits (omega arith))
operands-few Ecall h = no-operands
operands-few Ebreak h = no-operands

-- ---- lines

-- what stands behind the first operand
further-length : (os : List Operand) → AreShort os → length (further_operands os) ≤ 26 * length os
further-length [] h = omega arith
further-length (o ∷ os) h =
    let here = h.0 in
    let more = further-length os h.1 in
    let whole = length-append (operand_text o) (further_operands os) in
    omega arith

-- the operands of a line
operands-length : (os : List Operand) → AreShort os → length (operands_text os) ≤ 26 * length os
operands-length [] h = omega arith
operands-length (o ∷ os) h =
    let here = h.0 in
    let more = further-length os h.1 in
    let whole = length-append (operand_text o) (further_operands os) in
    omega arith

-- an instruction
inst-length : (i : Inst) → IsInRange i → length (inst_text i) ≤ 84
inst-length i h =
    let few = operands-few i h in
    let count : length (operands i) ≤ 3 = few.0 in
    let name = verb-short (verb_of i) in
    let others = operands-length (operands i) few.1 in
    let whole = length-append (name_text i) (operands_text (operands i)) in
    omega arith

-- a word
word-length : (w : ℕ) → w < 2 ^ 32 → length (word_line w) ≤ 85
word-length w l =
    let whole = length-append (word_text w (decoded w)) (codes "\n") in
    let text = go (decoded w) refl in
    omega arith
  where
    go : (is : List Inst) → decoded w ≡ is → length (word_text w is) ≤ 84
    go [] e = let z = number-short w l in omega arith
    go (i ∷ is) e = inst-length i (decodes-truly w i is e).0

-- words
words-length : (ws : List ℕ) → AreBelow (2 ^ 32) ws → length (flat_map word_line ws) ≤ 85 * length ws
words-length [] h = omega arith
words-length (w ∷ ws) h =
    let here = word-length w (h 0) in
    let more = words-length ws (λ k. h (suc k)) in
    let whole = length-append (word_line w) (flat_map word_line ws) in
    omega arith

-- a head line
head-length : (word : List ℕ) (n : ℕ) → length word ≤ 9 → n < 2 ^ 32 → length (head_line word n) ≤ 20
head-length word n h l =
    let number = number-short n l in
    let prefix = length-append word (decimal n) in
    let whole = length-append (word ++ decimal n) (codes "\n") in
    omega arith

-- a head line and what follows
behind-head : (line text : List ℕ) (n : ℕ) → length line ≤ 20 → length text ≤ n → length (line ++ text) ≤ n + 20
behind-head line text n h k = let whole = length-append line text in omega arith

-- so many bytes aren't too many
enough : (n count : ℕ) → n ≤ 85 * count + 20 + 20 + 20 + 20 → count ≤ max_words → n ≤ 4294967294
enough n count h k = omega arith

-- the whole text
pub text_short : (image : Image) → IsImage image → AreBelow (2 ^ 32) image.words → length (asm_text image) ≤ 4294967294
text_short image i b =
    let params : image.params ≤ max_places = i.params in
    let results : image.results ≤ max_places = i.results in
    let stride : image.stride < 2 ^ 31 = stride-small image.stride i.stride in
    let first = head_line (codes ".image ") 1 in
    let second = head_line (codes ".stride ") image.stride in
    let third = head_line (codes ".params ") image.params in
    let fourth = head_line (codes ".results ") image.results in
    let words = flat_map word_line image.words in
    let most = 85 * length image.words in
    let whole : length (first ++ (second ++ (third ++ (fourth ++ words)))) ≤ most + 20 + 20 + 20 + 20 =
    behind-head first (second ++ (third ++ (fourth ++ words))) (most + 20 + 20 + 20) (head-length (codes ".image ") 1 (omega arith) (omega arith))
    (behind-head second (third ++ (fourth ++ words)) (most + 20 + 20) (head-length (codes ".stride ") image.stride (omega arith) (omega arith))
    (behind-head third (fourth ++ words) (most + 20) (head-length (codes ".params ") image.params (omega arith) (omega arith))
    (behind-head fourth words most (head-length (codes ".results ") image.results (omega arith) (omega arith)) (words-length image.words b)))) in
    subst (λ (t : List ℕ). length t ≤ 4294967294) (sym (text-same image))
    (enough (length (first ++ (second ++ (third ++ (fourth ++ words))))) (length image.words) whole i.words)

-- nor is a text that is the same
pub printed_short : (text : List ℕ) (image : Image) → IsImage image → AreBelow (2 ^ 32) image.words → text ≡ asm_text image → length text ≤ 4294967294
printed_short text image i b e = subst (λ (t : List ℕ). length t ≤ 4294967294) (sym e) (text_short image i b)
