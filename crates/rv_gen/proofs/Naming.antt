-- By the list of the addresses of a code's threads, its parts are those of the image.
use Rattle.std.proofs.Common.{◌≡◌, ℕ, ◌+◌, ◌*◌, ◌<◌, List, [], ◌∷◌, ◌++◌, length, map, flat_map, refl, sym, ap, ap₂, ◌∙◌, append_assoc, arith}
use Rattle.std.specs.List.{AllByRecursion}
use Rattle.std.specs.Prelude.{slice_index}
use Rattle.tam_word.specs.Lists.{below}
use Rattle.tl0_code.specs.declared.inlet.Inlet.{Inlet}
use Rattle.tl0_code.specs.declared.instr.Instr.{Instr}
use Rattle.tl0_code.specs.declared.instr.Instr.TheVariants.{Imm, Mov, Op as Operate, Fork, Switch, Falloc, Send, Ret, Ialloc, Ifetch, Istore, Skip}
use Rattle.tl0_code.specs.ThreadCode.{Thread, CodeText, Program, code_text}
use Rattle.tl0_code.specs.CodeRules.{IsChecked}
use Rattle.rv_inst.specs.declared.inst.Inst.{Inst}
use Rattle.rv_inst.specs.declared.inst.Inst.TheVariants.{Branch, Jal}
use Rattle.rv_inst.specs.declared.branch_name.BranchName.TheVariants.{Beq}
use Rattle.rv_inst.specs.Instructions.{encoded}
use Rattle.rv_inst.specs.Images.{Image}
use Rattle.rv_keep.specs.FrameRecords.{slot_at, cell_at}
use Rattle.rv_keep.specs.Expansions.{expanded, forks, get, stop}
use Rattle.rv_keep.specs.Kernel.{kernel}
use Rattle.rv_keep.specs.Image.{thread_insts, code_insts, start_of, inlet_words, inlets_of_code, record_of, record_and_inlets}
use Rattle.rv_keep.specs.Image.{words_in_all, stride_of, code_table, image_words, image_of}
use Rattle.rv_gen.specs.Sayable.{IsSayable, AreSayable, IsInletThere}
use Rattle.rv_gen.specs.Parts.{word_of, words_of, starts_in, insts_at, inlet_at, record_at}
use Rattle.rv_gen.proofs.Saying.{threads-sayable, inlets-there}
use Rattle.rv_gen.proofs.Starting.{starts-count, starts-are}

-- ---- words

-- a name for a word is the word
word-is : (i : Inst) → word_of i ≡ encoded i
unfolding word_of
word-is i = refl

-- so for their lists
pub words-are : (is : List Inst) → words_of is ≡ map encoded is
words-are [] = refl
words-are (i ∷ is) = ap₂ (λ (w : ℕ) (ws : List ℕ). w ∷ ws) (word-is i) (words-are is)

-- ---- the same addresses make the same instructions

-- two ways to name addresses that are the same for the first n threads
abbrev SameBelow : ℕ → (ℕ → ℕ) → (ℕ → ℕ) → Type 0
SameBelow n f g = (t : ℕ) → t < n → f t ≡ g t

-- a fork
forks-same : (slots : ℕ) (f g : ℕ → ℕ) (t : ℕ) → f t ≡ g t → forks slots f t ≡ forks slots g t
forks-same slots f g t e = ap (λ (a : ℕ). forks slots (λ _. a) t) e

-- an instruction
expanded-same : (slots n c : ℕ) (f g : ℕ → ℕ) → SameBelow n f g → (i : Instr) → IsSayable slots n i → expanded slots f c i ≡ expanded slots g c i
expanded-same slots n c f g e (Imm d w) h = refl
expanded-same slots n c f g e (Mov d a) h = refl
expanded-same slots n c f g e (Operate o d a b) h = refl
expanded-same slots n c f g e (Fork t) h = forks-same slots f g t (e t h)
expanded-same slots n c f g e (Switch s t u) h =
    ap₂ (λ (a b : ℕ). get 5 s ++ (Branch Beq 5 0 36 ∷ forks slots (λ _. a) t ++ (Jal 0 32 ∷ forks slots (λ _. b) u))) (e t h.1) (e u h.2)
expanded-same slots n c f g e (Falloc d i) h = refl
expanded-same slots n c f g e (Send k q a) h = refl
expanded-same slots n c f g e (Ret k a) h = refl
expanded-same slots n c f g e (Ialloc m i) h = refl
expanded-same slots n c f g e (Ifetch r x i m) h = refl
expanded-same slots n c f g e (Istore r x a m) h = refl
expanded-same slots n c f g e (Skip m) h = refl

-- what is made of each element is the same
flat-same : {X Y : Type 0} (P : X → Type 0) (f g : X → List Y) → ((x : X) → P x → f x ≡ g x) → (xs : List X) → AllByRecursion P xs
    → flat_map f xs ≡ flat_map g xs
flat-same P f g e [] h = refl
flat-same {X} {Y} P f g e (x ∷ xs) h = ap₂ (λ (ys zs : List Y). ys ++ zs) (e x h.0) (flat-same P f g e xs h.1)

-- a thread
insts-same : (slots n c : ℕ) (starts : List ℕ) (g : ℕ → ℕ) → SameBelow n (slice_index starts) g → (t : Thread) → AreSayable slots n t
    → insts_at slots starts c t ≡ flat_map (expanded slots g c) t.instrs ++ stop
insts-same slots n c starts g e t h =
    ap (λ (is : List Inst). is ++ stop) (flat-same (IsSayable slots n) (expanded slots (slice_index starts) c) (expanded slots g c)
    (expanded-same slots n c (slice_index starts) g e) t.instrs h)

-- an inlet
inlet-same : (p : Program) (n k : ℕ) (starts : List ℕ) → SameBelow k (slice_index starts) (start_of p n) → (i : Inlet)
    → IsInletThere (code_text p n).slots k i → inlet_at (code_text p n).slots starts i ≡ inlet_words p n i
inlet-same p n k starts e i h =
    ap (λ (a : ℕ). slot_at i.slot ∷ cell_at (code_text p n).slots i.thread ∷ a ∷ 0 ∷ []) (e i.thread h.1)

-- ---- a code

-- the addresses of its threads are those of the image
named : (p : Program) (n : ℕ) → SameBelow (length (code_text p n).threads + 1) (slice_index (starts_in p n)) (start_of p n)
named p n t l =
    let a : length (starts_in p n) ≡ length (code_text p n).threads + 1 = starts-count p n in
    starts-are p n t (omega arith)

-- its threads are
pub code-is : (p : Program) (n : ℕ) → IsChecked p → n < length p.codes
    → flat_map (insts_at (code_text p n).slots (starts_in p n) n) (code_text p n).threads ≡ code_insts p n
code-is p n c l =
    let k : ℕ = length (code_text p n).threads + 1 in
    let s : ℕ = (code_text p n).slots in
    flat-same (AreSayable s k) (insts_at s (starts_in p n) n) (thread_insts p n) (insts-same s k n (starts_in p n) (start_of p n) (named p n))
    (code_text p n).threads (threads-sayable p n c l)

-- its record and its inlet table are
pub record-is : (p : Program) (n : ℕ) → IsChecked p → n < length p.codes
    → record_at (inlets_of_code p n) (starts_in p n) (code_text p n) ≡ record_and_inlets p n
record-is p n c l =
    let t : CodeText = code_text p n in
    let k : ℕ = length t.threads + 1 in
    ap₂ (λ (a : ℕ) (ws : List ℕ). inlets_of_code p n ∷ cell_at t.slots 0 ∷ length t.threads ∷ a ∷ map (λ x. x.count) t.threads ++ ws)
    (named p n 0 (omega arith))
    (flat-same (IsInletThere t.slots k) (inlet_at t.slots (starts_in p n)) (inlet_words p n) (inlet-same p n k (starts_in p n) (named p n)) t.inlets
    (inlets-there p n c l))

-- ---- the image

-- words joined are those of both
words-append : (xs ys : List Inst) → map encoded (xs ++ ys) ≡ words_of xs ++ words_of ys
words-append [] ys = sym (words-are ys)
words-append (x ∷ xs) ys = ap₂ (λ (w : ℕ) (ws : List ℕ). w ∷ ws) (sym (word-is x)) (words-append xs ys)

-- kernel, threads and tables, one behind another
pub parts-join : (kernel threads : List Inst) (table records : List ℕ)
    → ((words_of kernel ++ words_of threads) ++ table) ++ records ≡ map encoded (kernel ++ threads) ++ (table ++ records)
parts-join kernel threads table records =
    rw (words-append kernel threads) (append_assoc (words_of kernel ++ words_of threads) table records)

-- what was pushed, part by part
pub record ArePushed (p : Program) (words : List ℕ) : Type 0 where
  pub to_kernel : List ℕ
  pub to_threads : List ℕ
  pub to_table : List ℕ
  pub kernel : to_kernel ≡ words_of (kernel (4 * words_in_all p) (stride_of p) (code_table p) p.main)
  pub threads : to_threads ≡ to_kernel ++ words_of (flat_map (code_insts p) (below (length p.codes)))
  pub table : to_table ≡ to_threads ++ map (record_of p) (below (length p.codes))
  pub records : words ≡ to_table ++ flat_map (record_and_inlets p) (below (length p.codes))

-- it is the words of the image
pub words-whole : (p : Program) (words : List ℕ) → ArePushed p words → words ≡ image_words p
words-whole p words a =
    let threads : List Inst = flat_map (code_insts p) (below (length p.codes)) in
    let table : List ℕ = map (record_of p) (below (length p.codes)) in
    let records : List ℕ = flat_map (record_and_inlets p) (below (length p.codes)) in
    let b : a.to_threads ≡ words_of (kernel (4 * words_in_all p) (stride_of p) (code_table p) p.main) ++ words_of threads =
    a.threads ∙ ap (λ (ws : List ℕ). ws ++ words_of threads) a.kernel in
    a.records ∙ (ap (λ (ws : List ℕ). ws ++ records) (a.table ∙ ap (λ (ws : List ℕ). ws ++ table) b)
    ∙ parts-join (kernel (4 * words_in_all p) (stride_of p) (code_table p) p.main) threads table records)

-- an image of these numbers and words
abbrev pub made : ℕ → ℕ → ℕ → List ℕ → Image
made stride params results words = record { stride = stride; params = params; results = results; words = words }

-- the image is made of its own
pub image-is : (p : Program) → made (stride_of p) (code_text p p.main).params (code_text p p.main).results (image_words p) ≡ image_of p
unfolding image_of
image-is p = refl
