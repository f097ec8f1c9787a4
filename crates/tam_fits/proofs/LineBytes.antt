-- How many bytes the lines of thread code have at most, where each number is a word.
use Rattle.std.proofs.Common.{◌≡◌, ℕ, suc, ◌+◌, ◌-◌, ◌*◌, ◌^◌, ◌<◌, ◌≤◌, Bool, true, false, nat_lt, List, [], ◌∷◌, map, length, refl, arith, cond, inl, inr}
use Rattle.std.specs.Prelude.{codes, decimal}
use Rattle.std.specs.List.{sum_by}
use Rattle.std.proofs.lemmas.List.{length-append}
use Rattle.std.proofs.lemmas.List.Sums.{sum_by-cons}
use Rattle.std.proofs.lemmas.Fmt.{length-decimal-le}
use Rattle.tam_word.specs.declared.op.Op.{Op}
use Rattle.tam_word.specs.declared.op.Op.TheVariants.{Add, Sub, Mul, Div, Divu, Rem, Remu, And, Or, Xor, Sll, Srl, Sra, Slt, Sltu, Eq}
use Rattle.tam_word.specs.Words.{signed_text}
use Rattle.tam_word.specs.OpNames.{op_name}
use Rattle.tam_word.proofs.Members.{In}
use Rattle.tl0_code.specs.declared.code_line.CodeLine.{CodeLine}
use Rattle.tl0_code.specs.declared.code_line.CodeLine.TheVariants.{Counts, Does}
use Rattle.tl0_code.specs.declared.instr.Instr.{Instr}
use Rattle.tl0_code.specs.declared.instr.Instr.TheVariants.{Imm, Mov, Op as Operate, Fork, Switch, Falloc, Send, Ret, Ialloc, Ifetch, Istore, Skip}
use Rattle.tl0_code.specs.ThreadCode.{numbers_of}
use Rattle.tl0_code.specs.CodeTexts.{said, line_tokens, spaced}
use Rattle.tam_fits.proofs.Lists.{sum-map, sum-limit}
use Rattle.tam_fits.proofs.NodeWeights.{Weighing, operands_in}

-- the bytes of a line
abbrev pub line_bytes : CodeLine → ℕ
line_bytes l = length (spaced (line_tokens l))

-- numbers are words
abbrev pub AreWords : List ℕ → Type 0
AreWords ns = (n : ℕ) → In n ns → n < 2 ^ 32

-- ---- tokens

-- a number
number-short : (n : ℕ) → n < 2 ^ 32 → length (decimal n) ≤ 10
number-short n l = length-decimal-le 10 n (omega arith) (omega arith) (omega arith)

-- a signed one
signed-short : (v : ℕ) → v < 2 ^ 32 → length (signed_text v) ≤ 11
signed-short v l = go (nat_lt v (2 ^ 31)) refl
  where
    go : (t : Bool) → nat_lt v (2 ^ 31) ≡ t → length (cond t (decimal v) (45 ∷ decimal (2 ^ 32 - v))) ≤ 11
    go true e = let z = number-short v l in omega arith
    go false e = let z = length-decimal-le 10 (2 ^ 32 - v) (omega arith) (omega arith) (omega arith) in omega arith

-- the name of an operator
name-short : (o : Op) → length (op_name o) ≤ 4
name-short Add = omega arith
name-short Sub = omega arith
name-short Mul = omega arith
name-short Div = omega arith
name-short Divu = omega arith
name-short Rem = omega arith
name-short Remu = omega arith
name-short And = omega arith
name-short Or = omega arith
name-short Xor = omega arith
name-short Sll = omega arith
name-short Srl = omega arith
name-short Sra = omega arith
name-short Slt = omega arith
name-short Sltu = omega arith
name-short Eq = omega arith

-- ---- lines

-- behind each token stands one byte
spaced-length : (t : List ℕ) (ts : List (List ℕ)) → length (spaced (t ∷ ts)) ≡ sum_by (λ u. suc (length u)) (t ∷ ts)
spaced-length t [] =
    let a = length-append t (10 ∷ []) in
    let s = sum_by-cons (λ (u : List ℕ). suc (length u)) t [] in
    omega (arith, a, s)
spaced-length t (u ∷ us) =
    let i = spaced-length u us in
    let a = length-append t (32 ∷ spaced (u ∷ us)) in
    let s = sum_by-cons (λ (v : List ℕ). suc (length v)) t (u ∷ us) in
    omega (arith, i, a, s)

-- a word and numbers
pub said-bytes : (word numbers : List ℕ) → AreWords numbers → length (spaced (said word numbers)) ≤ suc (length word) + 11 * length numbers
said-bytes word numbers h =
    let e = spaced-length word (map decimal numbers) in
    let s = sum_by-cons (λ (u : List ℕ). suc (length u)) word (map decimal numbers) in
    let m = sum-map (λ (u : List ℕ). suc (length u)) decimal numbers in
    let l = sum-limit (λ n. suc (length (decimal n))) 11 (length numbers) numbers (λ n i. let z = number-short n (h n i) in omega (arith, z)) (omega arith) in
    omega (arith, e, s, m, l)

-- how many codes there are, and the number of `main`
pub counts-short : (n m : ℕ) → n < 2 ^ 32 → m < 2 ^ 32 → line_bytes (Counts n m) ≤ 33
counts-short n m h l =
    let e = spaced-length (codes "codes") (decimal n ∷ codes "main" ∷ decimal m ∷ []) in
    let a = number-short n h in
    let b = number-short m l in
    let s = sum_by-cons (λ (u : List ℕ). suc (length u)) (codes "codes") (decimal n ∷ codes "main" ∷ decimal m ∷ []) in
    let t = sum_by-cons (λ (u : List ℕ). suc (length u)) (decimal n) (codes "main" ∷ decimal m ∷ []) in
    let v = sum_by-cons (λ (u : List ℕ). suc (length u)) (codes "main") (decimal m ∷ []) in
    let w = sum_by-cons (λ (u : List ℕ). suc (length u)) (decimal m) [] in
    omega (arith, e, a, b, s, t, v, w)

-- ---- instructions

-- the bytes that the line of an instruction has at most
abbrev instr_bytes : Instr → ℕ
instr_bytes (Imm d v) = 27
instr_bytes (Mov d a) = 26
instr_bytes (Operate o d a b) = 38
instr_bytes (Fork t) = 16
instr_bytes (Switch s t u) = 40
instr_bytes (Falloc c i) = 29
instr_bytes (Send f p a) = 38
instr_bytes (Ret k a) = 26
instr_bytes (Ialloc n i) = 29
instr_bytes (Ifetch r x i n) = 51
instr_bytes (Istore r x a n) = 51
instr_bytes (Skip n) = 16

-- it has no more
pub instr-short : (i : Instr) → AreWords (numbers_of i) → line_bytes (Does i) ≤ instr_bytes i
instr-short (Imm d v) h =
    let e = spaced-length (codes "imm") (decimal d ∷ signed_text v ∷ []) in
    let a = number-short d (h d (inl refl)) in
    let b = signed-short v (h v (inr (inl refl))) in
    let s = sum_by-cons (λ (u : List ℕ). suc (length u)) (codes "imm") (decimal d ∷ signed_text v ∷ []) in
    let t = sum_by-cons (λ (u : List ℕ). suc (length u)) (decimal d) (signed_text v ∷ []) in
    let w = sum_by-cons (λ (u : List ℕ). suc (length u)) (signed_text v) [] in
    omega (arith, e, a, b, s, t, w)
instr-short (Mov d a) h = said-bytes (codes "mov") (d ∷ a ∷ []) h
instr-short (Operate o d a b) h = let s = said-bytes (op_name o) (d ∷ a ∷ b ∷ []) h in let n = name-short o in omega (arith, s, n)
instr-short (Fork t) h = said-bytes (codes "fork") (t ∷ []) h
instr-short (Switch s t u) h = said-bytes (codes "switch") (s ∷ t ∷ u ∷ []) h
instr-short (Falloc c i) h = said-bytes (codes "falloc") (c ∷ i ∷ []) h
instr-short (Send f p a) h = said-bytes (codes "send") (f ∷ p ∷ a ∷ []) h
instr-short (Ret k a) h = said-bytes (codes "ret") (k ∷ a ∷ []) h
instr-short (Ialloc n i) h = said-bytes (codes "ialloc") (n ∷ i ∷ []) h
instr-short (Ifetch r x i n) h = said-bytes (codes "ifetch") (r ∷ x ∷ i ∷ n ∷ []) h
instr-short (Istore r x a n) h = said-bytes (codes "istore") (r ∷ x ∷ a ∷ n ∷ []) h
instr-short (Skip n) h = said-bytes (codes "skip") (n ∷ []) h

-- an instruction, and the forks of its operands
pub vertex-bytes : (i : Instr) → instr_bytes i + 16 * operands_in i ≤ 99
vertex-bytes (Imm d v) = omega arith
vertex-bytes (Mov d a) = omega arith
vertex-bytes (Operate o d a b) = omega arith
vertex-bytes (Fork t) = omega arith
vertex-bytes (Switch s t u) = omega arith
vertex-bytes (Falloc c i) = omega arith
vertex-bytes (Send f p a) = omega arith
vertex-bytes (Ret k a) = omega arith
vertex-bytes (Ialloc n i) = omega arith
vertex-bytes (Ifetch r x i n) = omega arith
vertex-bytes (Istore r x a n) = omega arith
vertex-bytes (Skip n) = omega arith

-- bytes as a weight: a thread has two more lines
abbrev pub in-bytes : Weighing
in-bytes = record {
  weight = instr_bytes;
  head = 23;
  fork = 16;
  gift = 42;
  vertex = 99;
  node = 78;
  forks = λ t. omega arith;
  gifts = λ d a t. omega arith;
  leaves = omega arith;
  vertices = vertex-bytes;
  conds = λ m n. omega arith;
  enters = omega arith;
}
