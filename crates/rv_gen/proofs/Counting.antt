-- How many words machine code has: within what a word counts.
use Rattle.std.proofs.Common.{◌≡◌, ℕ, suc, ◌+◌, ◌*◌, ◌<◌, ◌≤◌, ◌^◌, List, [], ◌∷◌, length, refl, arith, slice_get}
use Rattle.std.specs.Prelude.{sum_by}
use Rattle.std.proofs.lemmas.List.Sums.{sum_by-cons}
use Rattle.tam_word.specs.declared.op.Op.{Op}
use Rattle.tam_word.specs.declared.op.Op.TheVariants.{Add, Sub, Mul, Div, Divu, Rem, Remu, And, Or, Xor, Sll, Srl, Sra, Slt, Sltu, Eq}
use Rattle.tl0_code.specs.declared.instr.Instr.{Instr}
use Rattle.tl0_code.specs.declared.instr.Instr.TheVariants.{Imm, Mov, Op as Operate, Fork, Switch, Falloc, Send, Ret, Ialloc, Ifetch, Istore, Skip}
use Rattle.tl0_code.specs.ThreadCode.{Thread, CodeText, Program, or_text, instr_count}
use Rattle.tl0_code.specs.CodeRules.{IsChecked}
use Rattle.rv_keep.specs.Image.{instr_words, thread_words, threads_words, code_words, record_words, words_in_all}

-- ---- no instruction has more than 19 words

-- a number that is at most 19
within : (n k : ℕ) → n ≡ k → k ≤ 19 → n ≤ 19
within n k e l = omega arith

-- an operator
operator-few : (o : Op) (d a b : ℕ) → instr_words (Operate o d a b) ≤ 19
operator-few Add d a b = within (instr_words (Operate Add d a b)) 10 refl (omega arith)
operator-few Sub d a b = within (instr_words (Operate Sub d a b)) 10 refl (omega arith)
operator-few Mul d a b = within (instr_words (Operate Mul d a b)) 10 refl (omega arith)
operator-few Div d a b = within (instr_words (Operate Div d a b)) 10 refl (omega arith)
operator-few Divu d a b = within (instr_words (Operate Divu d a b)) 10 refl (omega arith)
operator-few Rem d a b = within (instr_words (Operate Rem d a b)) 10 refl (omega arith)
operator-few Remu d a b = within (instr_words (Operate Remu d a b)) 10 refl (omega arith)
operator-few And d a b = within (instr_words (Operate And d a b)) 10 refl (omega arith)
operator-few Or d a b = within (instr_words (Operate Or d a b)) 10 refl (omega arith)
operator-few Xor d a b = within (instr_words (Operate Xor d a b)) 10 refl (omega arith)
operator-few Sll d a b = within (instr_words (Operate Sll d a b)) 10 refl (omega arith)
operator-few Srl d a b = within (instr_words (Operate Srl d a b)) 10 refl (omega arith)
operator-few Sra d a b = within (instr_words (Operate Sra d a b)) 10 refl (omega arith)
operator-few Slt d a b = within (instr_words (Operate Slt d a b)) 10 refl (omega arith)
operator-few Sltu d a b = within (instr_words (Operate Sltu d a b)) 10 refl (omega arith)
operator-few Eq d a b = within (instr_words (Operate Eq d a b)) 11 refl (omega arith)

-- any instruction
instr-few : (i : Instr) → instr_words i ≤ 19
instr-few (Imm d w) = within (instr_words (Imm d w)) 5 refl (omega arith)
instr-few (Mov d a) = within (instr_words (Mov d a)) 6 refl (omega arith)
instr-few (Operate o d a b) = operator-few o d a b
instr-few (Fork t) = within (instr_words (Fork t)) 7 refl (omega arith)
instr-few (Switch s t u) = within (instr_words (Switch s t u)) 19 refl (omega arith)
instr-few (Falloc d i) = within (instr_words (Falloc d i)) 6 refl (omega arith)
instr-few (Send f q a) = within (instr_words (Send f q a)) 10 refl (omega arith)
instr-few (Ret k a) = within (instr_words (Ret k a)) 8 refl (omega arith)
instr-few (Ialloc n i) = within (instr_words (Ialloc n i)) 8 refl (omega arith)
instr-few (Ifetch r x i n) = within (instr_words (Ifetch r x i n)) 13 refl (omega arith)
instr-few (Istore r x a n) = within (instr_words (Istore r x a n)) 13 refl (omega arith)
instr-few (Skip n) = within (instr_words (Skip n)) 5 refl (omega arith)

-- ---- nor have their lists

-- instructions
instrs-few : (is : List Instr) → sum_by instr_words is ≤ 19 * length is
instrs-few [] = omega arith
instrs-few (i ∷ is) =
    let a : sum_by instr_words (i ∷ is) ≡ instr_words i + sum_by instr_words is = sum_by-cons instr_words i is in
    let b : instr_words i ≤ 19 = instr-few i in
    let c : sum_by instr_words is ≤ 19 * length is = instrs-few is in
    omega arith

-- threads
threads-few : (ts : List Thread) → threads_words ts ≤ 19 * sum_by (λ t. length t.instrs) ts + length ts
threads-few [] = omega arith
threads-few (t ∷ ts) =
    let a : threads_words (t ∷ ts) ≡ thread_words t + threads_words ts = sum_by-cons thread_words t ts in
    let b : sum_by (λ x. length x.instrs) (t ∷ ts) ≡ length t.instrs + sum_by (λ x. length x.instrs) ts = sum_by-cons (λ x. length x.instrs) t ts in
    let c : sum_by instr_words t.instrs ≤ 19 * length t.instrs = instrs-few t.instrs in
    let d : threads_words ts ≤ 19 * sum_by (λ x. length x.instrs) ts + length ts = threads-few ts in
    omega arith

-- the threads of codes
codes-few : (cs : List CodeText) → ((n : ℕ) → n < length cs → length (or_text (slice_get cs n)).threads ≤ 3073)
    → sum_by code_words cs ≤ 19 * sum_by instr_count cs + 3073 * length cs
codes-few [] h = omega arith
codes-few (c ∷ cs) h =
    let a : sum_by code_words (c ∷ cs) ≡ code_words c + sum_by code_words cs = sum_by-cons code_words c cs in
    let b : sum_by instr_count (c ∷ cs) ≡ instr_count c + sum_by instr_count cs = sum_by-cons instr_count c cs in
    let d : code_words c ≤ 19 * instr_count c + length c.threads = threads-few c.threads in
    let e : length c.threads ≤ 3073 = h 0 (omega arith) in
    let f : sum_by code_words cs ≤ 19 * sum_by instr_count cs + 3073 * length cs = codes-few cs (λ n l. h (suc n) (omega (arith, l))) in
    omega arith

-- the records of codes
records-few : (cs : List CodeText) → ((n : ℕ) → n < length cs → length (or_text (slice_get cs n)).threads ≤ 3073)
    → ((n : ℕ) → n < length cs → length (or_text (slice_get cs n)).inlets ≤ 1024) → sum_by record_words cs ≤ 7173 * length cs
records-few [] h k = omega arith
records-few (c ∷ cs) h k =
    let a : sum_by record_words (c ∷ cs) ≡ record_words c + sum_by record_words cs = sum_by-cons record_words c cs in
    let e : length c.threads ≤ 3073 = h 0 (omega arith) in
    let f : length c.inlets ≤ 1024 = k 0 (omega arith) in
    let g : sum_by record_words cs ≤ 7173 * length cs = records-few cs (λ n l. h (suc n) (omega (arith, l))) (λ n l. k (suc n) (omega (arith, l))) in
    omega arith

-- the image of checked code
pub all-few : (p : Program) → IsChecked p → words_in_all p < 2 ^ 32
all-few p c =
    let a : sum_by code_words p.codes ≤ 19 * sum_by instr_count p.codes + 3073 * length p.codes =
    codes-few p.codes (λ n l. (c.within.each_code n l).few_threads) in
    let b : sum_by record_words p.codes ≤ 7173 * length p.codes =
    records-few p.codes (λ n l. (c.within.each_code n l).few_threads) (λ n l. (c.within.each_code n l).few_inlets) in
    let d : sum_by instr_count p.codes ≤ 67108864 = c.within.few_instrs in
    let e : length p.codes ≤ 256 = c.within.few_codes in
    omega arith
