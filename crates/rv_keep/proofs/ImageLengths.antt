-- The image has as many words as its parts: the length of an expansion doesn't turn on addresses.
use Rattle.std.proofs.Common.{◌≡◌, ℕ, zero, suc, ◌+◌, ◌*◌, ◌<◌, ◌≤◌, List, [], ◌∷◌, ◌++◌, length, map, take, flat_map, refl, sym, ap, ◌∙◌, arith, slice_get}
use Rattle.std.proofs.lemmas.List.{length-append}
use Rattle.std.proofs.lemmas.List.Sums.{sum_by-take-le, sum_by_more_le}
use Rattle.std.specs.Prelude.{sum_by, fold, get_or, None, Some}
use Rattle.tam_word.specs.Lists.{below}
use Rattle.tam_word.specs.declared.op.Op.{Op}
use Rattle.tam_word.specs.declared.op.Op.TheVariants.{Add, Sub, Mul, Div, Divu, Rem, Remu, And, Or, Xor, Sll, Srl, Sra, Slt, Sltu, Eq}
use Rattle.tl0_code.specs.declared.inlet.Inlet.{Inlet}
use Rattle.tl0_code.specs.declared.instr.Instr.{Instr}
use Rattle.tl0_code.specs.declared.instr.Instr.TheVariants.{Imm, Mov, Op as Operate, Fork, Switch, Falloc, Send, Ret, Ialloc, Ifetch, Istore, Skip}
use Rattle.tl0_code.specs.ThreadCode.{Thread, CodeText, Program, or_text, code_text}
use Rattle.rv_inst.specs.declared.inst.Inst.{Inst}
use Rattle.rv_inst.specs.Instructions.{encoded}
use Rattle.rv_keep.specs.KernelPlaces.{kernel_words}
use Rattle.rv_keep.specs.Kernel.{kernel}
use Rattle.rv_keep.specs.Expansions.{expanded, stop}
use Rattle.rv_keep.specs.Image.{instr_words, thread_words, code_words, record_words, words_in_all, stride_of, code_table, start_of, record_of}
use Rattle.rv_keep.specs.Image.{thread_insts, code_insts, inlet_words, record_and_inlets, image_words}

-- ---- sums

-- the sum over a list, from its front
abbrev pub total : {X : Type 0} → (X → ℕ) → List X → ℕ
total f [] = 0
total f (x ∷ xs) = f x + total f xs

-- a sum with a start is the start and the sum
sum-from : {X : Type 0} (f : X → ℕ) (xs : List X) (n : ℕ) → fold (λ a x. a + f x) n xs ≡ n + total f xs
sum-from f [] n = omega arith
sum-from f (x ∷ xs) n = sum-from f xs (n + f x) ∙ omega arith

-- std's sum is it
pub sum-total : {X : Type 0} (f : X → ℕ) (xs : List X) → sum_by f xs ≡ total f xs
sum-total f xs = sum-from f xs 0 ∙ omega arith

-- over lists joined
pub total-append : {X : Type 0} (f : X → ℕ) (xs ys : List X) → total f (xs ++ ys) ≡ total f xs + total f ys
total-append f [] ys = omega arith
total-append f (x ∷ xs) ys = let e : total f (xs ++ ys) ≡ total f xs + total f ys = total-append f xs ys in omega arith

-- where the terms are the same
pub total-same : {X : Type 0} (f g : X → ℕ) (xs : List X) → ((x : X) → f x ≡ g x) → total f xs ≡ total g xs
total-same f g [] e = refl
total-same f g (x ∷ xs) e =
    let a : f x ≡ g x = e x in
    let b : total f xs ≡ total g xs = total-same f g xs e in
    omega arith

-- the length of lists joined to one
pub length-flat : {X Y : Type 0} (f : X → List Y) (xs : List X) → length (flat_map f xs) ≡ total (λ x. length (f x)) xs
length-flat f [] = refl
length-flat f (x ∷ xs) =
    let a : length (flat_map f xs) ≡ total (λ y. length (f y)) xs = length-flat f xs in
    length-append (f x) (flat_map f xs) ∙ ap (λ (n : ℕ). length (f x) + n) a

-- a list mapped is as long
pub length-mapped : {X Y : Type 0} (f : X → Y) (xs : List X) → length (map f xs) ≡ length xs
length-mapped f [] = refl
length-mapped f (x ∷ xs) = let e : length (map f xs) ≡ length xs = length-mapped f xs in omega arith

-- ---- codes by their numbers

-- the first codes and one more
pub total-more : (g : CodeText → ℕ) (cs : List CodeText) (n : ℕ) → n < length cs
    → total g (take (suc n) cs) ≡ total g (take n cs) + g (or_text (slice_get cs n))
total-more g [] n l = absurd (omega arith)
total-more g (c ∷ cs) zero l = omega arith
total-more g (c ∷ cs) (suc n) l = let e : total g (take (suc n) cs) ≡ total g (take n cs) + g (or_text (slice_get cs n)) = total-more g cs n (omega arith) in
    omega arith

-- the sum over the numbers below n is that over the first n codes
pub total-numbers : (g : CodeText → ℕ) (cs : List CodeText) (n : ℕ) → n ≤ length cs → total (λ k. g (or_text (slice_get cs k))) (below n) ≡ total g (take n cs)
total-numbers g cs zero l = refl
total-numbers g cs (suc n) l =
    let a : total (λ k. g (or_text (slice_get cs k))) (below n ++ n ∷ [])
    ≡ total (λ k. g (or_text (slice_get cs k))) (below n) + total (λ k. g (or_text (slice_get cs k))) (n ∷ []) =
    total-append (λ k. g (or_text (slice_get cs k))) (below n) (n ∷ []) in
    let b : total (λ k. g (or_text (slice_get cs k))) (below n) ≡ total g (take n cs) = total-numbers g cs n (omega arith) in
    let c : total g (take (suc n) cs) ≡ total g (take n cs) + g (or_text (slice_get cs n)) = total-more g cs n (omega arith) in
    omega arith

-- all of a list
pub take-whole : {X : Type 0} (xs : List X) → take (length xs) xs ≡ xs
take-whole [] = refl
take-whole (x ∷ xs) = ap (λ ys. x ∷ ys) (take-whole xs)

-- so over all codes
pub total-codes : (g : CodeText → ℕ) (p : Program) → total (λ k. g (code_text p k)) (below (length p.codes)) ≡ total g p.codes
total-codes g p = total-numbers g p.codes (length p.codes) (omega arith) ∙ ap (λ (cs : List CodeText). total g cs) (take-whole p.codes)

-- how many numbers there are below n
pub length-below : (n : ℕ) → length (below n) ≡ n
length-below zero = refl
length-below (suc n) = let e : length (below n) ≡ n = length-below n in length-append (below n) (n ∷ []) ∙ omega arith

-- ---- the parts

-- an operator's expansion
operate-long : (o : Op) (slots : ℕ) (start : ℕ → ℕ) (c d a b : ℕ) → length (expanded slots start c (Operate o d a b)) ≡ instr_words (Operate o d a b)
operate-long Add slots start c d a b = refl
operate-long Sub slots start c d a b = refl
operate-long Mul slots start c d a b = refl
operate-long Div slots start c d a b = refl
operate-long Divu slots start c d a b = refl
operate-long Rem slots start c d a b = refl
operate-long Remu slots start c d a b = refl
operate-long And slots start c d a b = refl
operate-long Or slots start c d a b = refl
operate-long Xor slots start c d a b = refl
operate-long Sll slots start c d a b = refl
operate-long Srl slots start c d a b = refl
operate-long Sra slots start c d a b = refl
operate-long Slt slots start c d a b = refl
operate-long Sltu slots start c d a b = refl
operate-long Eq slots start c d a b = refl

-- each expansion
pub expanded-long : (slots : ℕ) (start : ℕ → ℕ) (c : ℕ) (i : Instr) → length (expanded slots start c i) ≡ instr_words i
expanded-long slots start c (Imm d w) = refl
expanded-long slots start c (Mov d a) = refl
expanded-long slots start c (Operate o d a b) = operate-long o slots start c d a b
expanded-long slots start c (Fork t) = refl
expanded-long slots start c (Switch s t u) = refl
expanded-long slots start c (Falloc d i) = refl
expanded-long slots start c (Send f q a) = refl
expanded-long slots start c (Ret k a) = refl
expanded-long slots start c (Ialloc n i) = refl
expanded-long slots start c (Ifetch r x i n) = refl
expanded-long slots start c (Istore r x a n) = refl
expanded-long slots start c (Skip n) = refl

-- a thread
pub thread-long : (p : Program) (c : ℕ) (t : Thread) → length (thread_insts p c t) ≡ thread_words t
thread-long p c t =
    let f : Instr → List Inst = expanded (code_text p c).slots (start_of p c) c in
    let a : length (flat_map f t.instrs) ≡ total (λ i. length (f i)) t.instrs = length-flat f t.instrs in
    let b : total (λ i. length (f i)) t.instrs ≡ total instr_words t.instrs =
    total-same (λ i. length (f i)) instr_words t.instrs (expanded-long (code_text p c).slots (start_of p c) c) in
    let s : sum_by instr_words t.instrs ≡ total instr_words t.instrs = sum-total instr_words t.instrs in
    length-append (flat_map f t.instrs) (stop) ∙ omega arith

-- the threads of a code
pub code-long : (p : Program) (c : ℕ) → length (code_insts p c) ≡ code_words (code_text p c)
code-long p c =
    length-flat (thread_insts p c) (code_text p c).threads
    ∙ (total-same (λ t. length (thread_insts p c t)) thread_words (code_text p c).threads (thread-long p c)
    ∙ sym (sum-total thread_words (code_text p c).threads))

-- the words of inlets
pub inlets-long : (p : Program) (c : ℕ) (is : List Inlet) → length (flat_map (inlet_words p c) is) ≡ 4 * length is
inlets-long p c [] = refl
inlets-long p c (i ∷ is) = let e : length (flat_map (inlet_words p c) is) ≡ 4 * length is = inlets-long p c is in omega arith

-- a record with its inlet table
pub record-long : (p : Program) (c : ℕ) → length (record_and_inlets p c) ≡ record_words (code_text p c)
record-long p c =
    let ts : List Thread = (code_text p c).threads in
    let a : length (map (λ t. t.count) ts ++ flat_map (inlet_words p c) (code_text p c).inlets)
    ≡ length (map (λ t. t.count) ts) + length (flat_map (inlet_words p c) (code_text p c).inlets) =
    length-append (map (λ t. t.count) ts) (flat_map (inlet_words p c) (code_text p c).inlets) in
    let b : length (map (λ t. t.count) ts) ≡ length ts = length-mapped (λ t. t.count) ts in
    let d : length (flat_map (inlet_words p c) (code_text p c).inlets) ≡ 4 * length (code_text p c).inlets = inlets-long p c (code_text p c).inlets in
    omega arith

-- all threads
pub threads-long : (p : Program) → length (flat_map (code_insts p) (below (length p.codes))) ≡ sum_by code_words p.codes
threads-long p =
    let codes : List ℕ = below (length p.codes) in
    length-flat (code_insts p) codes ∙ (total-same (λ n. length (code_insts p n)) (λ n. code_words (code_text p n)) codes (code-long p)
    ∙ (total-codes code_words p ∙ sym (sum-total code_words p.codes)))

-- all records with their inlet tables
pub records-long : (p : Program) → length (flat_map (record_and_inlets p) (below (length p.codes))) ≡ sum_by record_words p.codes
records-long p =
    let codes : List ℕ = below (length p.codes) in
    length-flat (record_and_inlets p) codes ∙ (total-same (λ n. length (record_and_inlets p n)) (λ n. record_words (code_text p n)) codes (record-long p)
    ∙ (total-codes record_words p ∙ sym (sum-total record_words p.codes)))

-- the image
pub image-long : (p : Program) → length (image_words p) ≡ words_in_all p
image-long p =
    let codes : List ℕ = below (length p.codes) in
    let k : List Inst = kernel (4 * words_in_all p) (stride_of p) (code_table p) p.main in
    let threads : List Inst = flat_map (code_insts p) codes in
    let tables : List ℕ = map (record_of p) codes ++ flat_map (record_and_inlets p) codes in
    let a : length (map encoded (k ++ threads) ++ tables) ≡ length (map encoded (k ++ threads)) + length tables =
    length-append (map encoded (k ++ threads)) tables in
    let b : length (map encoded (k ++ threads)) ≡ length k + length threads = length-mapped encoded (k ++ threads) ∙ length-append k threads in
    let c : length threads ≡ sum_by code_words p.codes = threads-long p in
    let d : length tables ≡ length (map (record_of p) codes) + length (flat_map (record_and_inlets p) codes) =
    length-append (map (record_of p) codes) (flat_map (record_and_inlets p) codes) in
    let e : length (map (record_of p) codes) ≡ length p.codes = length-mapped (record_of p) codes ∙ length-below (length p.codes) in
    let f : length (flat_map (record_and_inlets p) codes) ≡ sum_by record_words p.codes = records-long p in
    let g : length k ≡ kernel_words = refl in
    omega arith

-- ---- where threads begin

-- what stands at a number, or in place of it
code-got : (cs : List CodeText) (c : ℕ) → get_or cs c (or_text None) ≡ or_text (slice_get cs c)
code-got [] c = refl
code-got (x ∷ cs) zero = refl
code-got (x ∷ cs) (suc c) = code-got cs c

-- a thread begins within the image
pub start-inside : (p : Program) (c t : ℕ) → c < length p.codes → start_of p c t ≤ 4 * words_in_all p
start-inside p c t l =
    let a : sum_by code_words (take c p.codes) + code_words (get_or p.codes c (or_text None)) ≤ sum_by code_words p.codes =
    sum_by_more_le code_words p.codes c (or_text None) l in
    let b : get_or p.codes c (or_text None) ≡ code_text p c = code-got p.codes c in
    let d : code_words (get_or p.codes c (or_text None)) ≡ code_words (code_text p c) = ap (λ (x : CodeText). code_words x) b in
    let g : sum_by thread_words (take t (code_text p c).threads) ≤ sum_by thread_words (code_text p c).threads =
    sum_by-take-le thread_words (code_text p c).threads t in
    omega arith

-- what stands at a place of the threads, or in place of it
thread-got : (ts : List Thread) (t : ℕ) (x d : Thread) → slice_get ts t ≡ Some x → (get_or ts t d ≡ x) × (t < length ts)
thread-got [] t x d e = absurd cc
thread-got (y ∷ ts) zero x d e = (same-thread y x e, omega arith)
  where
    same-thread : (a b : Thread) → Some a ≡ Some b → a ≡ b
    same-thread a b k = cc
thread-got (y ∷ ts) (suc t) x d e = let r = thread-got ts t x d e in let l : t < length ts = r.1 in (r.0, omega arith)

-- a thread stands within the image
pub thread-inside : (p : Program) (c t : ℕ) (x : Thread) → c < length p.codes → slice_get (code_text p c).threads t ≡ Some x
    → start_of p c t + 4 * thread_words x ≤ 4 * words_in_all p
thread-inside p c t x l e =
    let a : sum_by code_words (take c p.codes) + code_words (get_or p.codes c (or_text None)) ≤ sum_by code_words p.codes =
    sum_by_more_le code_words p.codes c (or_text None) l in
    let b : get_or p.codes c (or_text None) ≡ code_text p c = code-got p.codes c in
    let d : code_words (get_or p.codes c (or_text None)) ≡ code_words (code_text p c) = ap (λ (y : CodeText). code_words y) b in
    let h = thread-got (code_text p c).threads t x x e in
    let g : sum_by thread_words (take t (code_text p c).threads) + thread_words (get_or (code_text p c).threads t x) ≤ sum_by thread_words
    (code_text p c).threads =
    sum_by_more_le thread_words (code_text p c).threads t x h.1 in
    let k : thread_words (get_or (code_text p c).threads t x) ≡ thread_words x = ap (λ (y : Thread). thread_words y) h.0 in
    omega arith
