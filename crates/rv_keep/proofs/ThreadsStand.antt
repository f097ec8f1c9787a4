-- The threads of a program stand where the image's words stand: the instructions of thread t of code c from its start on.
use Rattle.std.proofs.Common.{◌≡◌, ℕ, ◌+◌, ◌*◌, ◌<◌, ◌≤◌, List, [], ◌++◌, length, take, map, flat_map, refl, sym, ◌∙◌, arith, subst, slice_get, Some}
use Rattle.std.proofs.lemmas.List.{length-append}
use Rattle.std.specs.Prelude.{sum_by}
use Rattle.tam_word.specs.Lists.{below}
use Rattle.tam_word.proofs.Members.{In, in-below}
use Rattle.tam_msgs.specs.declared.limits.Limits.{Limits}
use Rattle.tl0_code.specs.declared.instr.Instr.{Instr}
use Rattle.tl0_code.specs.declared.instr.Instr.TheVariants.{Imm, Mov, Op as Operate, Fork, Switch, Falloc, Send, Ret, Ialloc, Ifetch, Istore, Skip}
use Rattle.tl0_code.specs.CodeRules.{faults_of_instr, IsChecked}
use Rattle.tl0_code.specs.ThreadCode.{Thread, Program, code_text}
use Rattle.rv_inst.specs.declared.inst.Inst.{Inst}
use Rattle.rv_inst.specs.Steps.{HoldsWords, Stands}
use Rattle.rv_inst.proofs.Memory.{stands-split}
use Rattle.rv_keep.specs.Expansions.{expanded, stop}
use Rattle.rv_keep.specs.Kernel.{kernel}
use Rattle.rv_keep.specs.KernelPlaces.{kernel_words}
use Rattle.rv_keep.specs.Image.{words_in_all, stride_of, code_table, start_of, code_words, thread_words, thread_insts, code_insts, record_of}
use Rattle.rv_keep.specs.Image.{record_and_inlets, image_words}
use Rattle.rv_keep.specs.MachineLaws.{MayRun}
use Rattle.rv_keep.proofs.Standing.{AllInRange, holds-stand}
use Rattle.rv_keep.proofs.InRange.{IsSmall, all-joined, expanded-ranged, stop-ranged}
use Rattle.rv_keep.proofs.KernelStands.{kernel-ranged}
use Rattle.rv_keep.proofs.ImageLengths.{total, sum-total, total-same, total-numbers, thread-long, code-long, threads-long}
use Rattle.rv_keep.proofs.CheckedCode.{head-is, instr-clean, callee-there, place-there}
use Rattle.rv_keep.proofs.Placing.{stands-among, stands-below, all-flat}

-- the numbers of an instruction without a fault are small where they have to be
small-numbers : (p : Program) (c : ℕ) (i : Instr) → IsChecked p → c < length p.codes → faults_of_instr p (code_text p c) i ≡ [] → IsSmall i
small-numbers p c (Imm d w) k l e = tt
small-numbers p c (Mov d a) k l e = tt
small-numbers p c (Operate o d a b) k l e = tt
small-numbers p c (Fork t) k l e = tt
small-numbers p c (Switch s t u) k l e = tt
small-numbers p c (Falloc d i) k l e =
    let f : length p.codes ≤ 256 = k.within.few_codes in
    let b : d < length p.codes = callee-there p (code_text p c) d i e in
    omega arith
small-numbers p c (Send f q a) k l e = tt
small-numbers p c (Ret n a) k l e =
    let f : (code_text p c).results ≤ 64 = (head-is p c k l).few_results in
    let b : n < (code_text p c).results = place-there p (code_text p c) n a e in
    omega arith
small-numbers p c (Ialloc n i) k l e = tt
small-numbers p c (Ifetch r x i n) k l e = tt
small-numbers p c (Istore r x a n) k l e = tt
small-numbers p c (Skip n) k l e = tt

-- the instructions of a thread are in range
thread-ranged : (p : Program) (c : ℕ) (t : Thread) → IsChecked p → c < length p.codes → In t (code_text p c).threads → AllInRange (thread_insts p c t)
thread-ranged p c t k l i =
    all-joined (flat_map (expanded (code_text p c).slots (start_of p c) c) t.instrs) (stop)
    (all-flat (expanded (code_text p c).slots (start_of p c) c) t.instrs
    (λ x j. expanded-ranged (code_text p c).slots (start_of p c) c x (small-numbers p c x k l (instr-clean p c t x k l i j)))) stop-ranged

-- so are those of the kernel and all threads
code-ranged : (p : Program) → IsChecked p
    → AllInRange (kernel (4 * words_in_all p) (stride_of p) (code_table p) p.main ++ flat_map (code_insts p) (below (length p.codes)))
code-ranged p k =
    let f : length p.codes ≤ 256 = k.within.few_codes in
    let m : p.main < length p.codes = k.main in
    all-joined (kernel (4 * words_in_all p) (stride_of p) (code_table p) p.main) (flat_map (code_insts p) (below (length p.codes)))
    (kernel-ranged (4 * words_in_all p) (stride_of p) (code_table p) p.main (omega arith))
    (all-flat (code_insts p) (below (length p.codes)) (λ c i.
    all-flat (thread_insts p c) (code_text p c).threads (λ t j. thread-ranged p c t k (in-below c (length p.codes) i) j)))

-- the threads stand behind the kernel
codes-stand : (p : Program) (args : List ℕ) (limits : Limits) (memory : List ℕ) → MayRun p args limits → HoldsWords memory 0 (image_words p)
    → Stands memory (4 * kernel_words) (flat_map (code_insts p) (below (length p.codes)))
codes-stand p args limits memory r h =
    let codes : List ℕ = below (length p.codes) in
    let k : List Inst = kernel (4 * words_in_all p) (stride_of p) (code_table p) p.main in
    let threads : List Inst = flat_map (code_insts p) codes in
    let ws : List ℕ = map (record_of p) codes ++ flat_map (record_and_inlets p) codes in
    let a : length (k ++ threads) ≡ length k + length threads = length-append k threads in
    let b : length threads ≡ sum_by code_words p.codes = threads-long p in
    let g : length k ≡ kernel_words = refl in
    let u : words_in_all p ≤ 16777210 = r.fits in
    let s : Stands memory 0 (k ++ threads) = holds-stand memory 0 (k ++ threads) ws h (code-ranged p r.checked) (omega arith) in
    (stands-split memory 0 k threads s).1

-- the threads of the codes before a code
words-before : (p : Program) (c : ℕ) → c ≤ length p.codes → total (λ n. length (code_insts p n)) (below c) ≡ sum_by code_words (take c p.codes)
words-before p c l =
    total-same (λ n. length (code_insts p n)) (λ n. code_words (code_text p n)) (below c) (code-long p)
    ∙ (total-numbers code_words p.codes c l ∙ sym (sum-total code_words (take c p.codes)))

-- thread t of code c stands from its start on
pub thread-stands : (p : Program) (args : List ℕ) (limits : Limits) (memory : List ℕ) (c t : ℕ) (x : Thread) → MayRun p args limits
    → HoldsWords memory 0 (image_words p) → c < length p.codes → slice_get (code_text p c).threads t ≡ Some x
    → Stands memory (start_of p c t) (thread_insts p c x)
thread-stands p args limits memory c t x r h l e =
    let ts : List Thread = (code_text p c).threads in
    let a : ℕ = 4 * kernel_words + 4 * total (λ n. length (code_insts p n)) (below c) in
    let s : Stands memory a (code_insts p c) =
    stands-below (λ (n : ℕ) (is : List Inst). Stands memory n is) (λ n xs ys k. stands-split memory n xs ys k) (code_insts p) (length p.codes)
    (4 * kernel_words) c l
    (codes-stand p args limits memory r h) in
    let q : Stands memory (a + 4 * total (λ y. length (thread_insts p c y)) (take t ts)) (thread_insts p c x) =
    stands-among (λ (n : ℕ) (is : List Inst). Stands memory n is) (λ n xs ys k. stands-split memory n xs ys k) (thread_insts p c) ts a t x e s in
    let b : total (λ n. length (code_insts p n)) (below c) ≡ sum_by code_words (take c p.codes) = words-before p c (omega arith) in
    let d : total (λ y. length (thread_insts p c y)) (take t ts) ≡ sum_by thread_words (take t ts) =
    total-same (λ y. length (thread_insts p c y)) thread_words (take t ts) (thread-long p c) ∙ sym (sum-total thread_words (take t ts)) in
    let o : a + 4 * total (λ y. length (thread_insts p c y)) (take t ts) ≡ start_of p c t = omega arith in
    subst (λ (n : ℕ). Stands memory n (thread_insts p c x)) o q
