-- A thread is the fold of its instructions: from its start the machine comes to its stop, and from there to the poll.
use Rattle.std.proofs.Common.{◌≡◌, ℕ, zero, suc, ◌+◌, ◌*◌, ◌<◌, ◌≤◌, List, [], ◌∷◌, ◌++◌, length, flat_map, refl, sym, ap, ◌∙◌, arith, subst, Some}
use Rattle.std.proofs.Common.{slice_get, inl}
use Rattle.std.proofs.lemmas.List.{append_assoc, length-append}
use Rattle.std.proofs.lemmas.Grind.{flat_map-append}
use Rattle.tam_word.proofs.Members.{In, get-in, in-get, right-in}
use Rattle.tam_msgs.specs.declared.limits.Limits.{Limits}
use Rattle.tl0_code.specs.declared.instr.Instr.{Instr}
use Rattle.tl0_code.specs.ThreadCode.{Thread, CodeText, Program, code_text, or_text}
use Rattle.tl0_code.specs.Machines.{Machine, Giving, Progress, Fine, Broken, code_at, done, done_all, done_thread, stopped, then_do}
use Rattle.tl0_code.specs.ThreadRuns.{text_at}
use Rattle.rv_inst.specs.declared.inst.Inst.{Inst}
use Rattle.rv_inst.specs.Steps.{Stands}
use Rattle.rv_inst.proofs.Memory.{stands-split}
use Rattle.rv_keep.specs.Expansions.{expanded, stop}
use Rattle.rv_keep.specs.Image.{start_of, thread_insts, thread_words, words_in_all}
use Rattle.rv_keep.proofs.ImageLengths.{thread-long, thread-inside}
use Rattle.std.specs.Prelude.{slice_index}
use Rattle.rv_keep.specs.Hosts.{Host, to_poll}
use Rattle.rv_keep.specs.MachineLaws.{MayRun}
use Rattle.rv_keep.specs.PhaseLaws.{RelatedAt, ComesTo, MayDo, Instructs}
use Rattle.rv_keep.proofs.CheckedCode.{instr-clean}
use Rattle.rv_keep.proofs.ThreadsStand.{thread-stands}
use Rattle.rv_keep.proofs.Keeping.{Keeps, done-keeps}
use Rattle.rv_keep.proofs.Delivering.{comes-on}

-- a thread of a code that may run
pub record InThread (p : Program) (args : List ℕ) (limits : Limits) (c t : ℕ) (x : Thread) : Type 0 where
  pub may : MayRun p args limits
  pub code_there : c < length p.codes
  pub is_thread : slice_get (code_text p c).threads t ≡ Some x

-- the instructions of part of a thread of code c
abbrev pub part_insts : Program → ℕ → List Instr → List Inst
part_insts p c is = flat_map (expanded (code_text p c).slots (start_of p c) c) is

-- where they end, from the thread's start on
abbrev pub part_end : Program → ℕ → ℕ → List Instr → ℕ
part_end p c t is = start_of p c t + 4 * length (part_insts p c is)

-- what each instruction of a thread carries on besides the relation
abbrev pub CarriedOn : Program → Limits → ℕ → (Machine → Type 0) → Type 0
CarriedOn p limits f Q =
    (m n : Machine) (s : Host) (i : Instr) (pc : ℕ) → RelatedAt pc p limits m s → m.table.current ≡ Some f → MayDo p (text_at p m f) i
    → done Giving m f i ≡ Fine n → Q m → Q n

-- a thread comes so to its stop, with the state that its stop begins with
pub record ComesToStop (steps : ℕ) (p : Program) (limits : Limits) (s : Host) (f c t : ℕ) (x : Thread) (n : Machine) (Q : Machine → Type 0) : Type 0 where
  pub machine : Machine
  pub comes : ComesTo steps (part_end p c t x.instrs) p limits s machine
  pub current : machine.table.current ≡ Some f
  pub code : code_at machine f ≡ c
  pub carried : Q machine
  pub stops : stopped Giving machine f ≡ Fine n

-- a list with none behind it
append-nil : (xs : List Instr) → xs ++ [] ≡ xs
append-nil [] = refl
append-nil (x ∷ xs) = ap (λ (y : List Instr). x ∷ y) (append-nil xs)

-- a code that is there
get-text : (cs : List CodeText) (c : ℕ) → c < length cs → slice_get cs c ≡ Some (or_text (slice_get cs c))
get-text [] c l = absurd (omega arith)
get-text (x ∷ cs) zero l = refl
get-text (x ∷ cs) (suc c) l = get-text cs c (omega arith)

-- the instructions of a thread may be done
pub may-do : (p : Program) (args : List ℕ) (limits : Limits) (c t : ℕ) (x : Thread) (i : Instr) → InThread p args limits c t x → In i x.instrs
    → MayDo p (code_text p c) i
may-do p args limits c t x i k j = (
  instr-clean p c x i k.may.checked k.code_there (get-in (code_text p c).threads t x k.is_thread) j,
  λ d w e. let g = in-get i x.instrs j in
      k.may.has_words c (code_text p c) (get-text p.codes c k.code_there) t g.0 d w x k.is_thread (g.1 ∙ ap Some e),
)

-- an instruction that is done, and then others
then-done : (m : Machine) (f : ℕ) (is : List Instr) (n : Machine) (g : Progress)
    → then_do (then_do g (λ k. done_all Giving k f is)) (λ k. stopped Giving k f) ≡ Fine n
    → (k : Machine) × (g ≡ Fine k) × (done_thread Giving k f is ≡ Fine n)
then-done m f is n (Fine k) e = (k, refl, e)
then-done m f is n (Broken what j) e = absurd cc

-- what stands at a part of a thread
part-stands : (p : Program) (args : List ℕ) (limits : Limits) (m : Machine) (s : Host) (c t pc : ℕ) (x : Thread) (before : List Instr) (i : Instr)
    (is : List Instr)
    → InThread p args limits c t x → x.instrs ≡ before ++ i ∷ is → RelatedAt pc p limits m s
    → Stands s.hart.memory (part_end p c t before) (expanded (code_text p c).slots (start_of p c) c i)
part-stands p args limits m s c t pc x before i is k e r =
    let g : Instr → List Inst = expanded (code_text p c).slots (start_of p c) c in
    let a : Stands s.hart.memory (start_of p c t) (flat_map g x.instrs ++ stop) =
    thread-stands p args limits s.hart.memory c t x k.may r.related.image k.code_there k.is_thread in
    let b : Stands s.hart.memory (start_of p c t) (flat_map g x.instrs) = (stands-split s.hart.memory (start_of p c t) (flat_map g x.instrs) stop a).0 in
    let d : flat_map g x.instrs ≡ flat_map g before ++ (g i ++ flat_map g is) = ap (λ (y : List Instr). flat_map g y) e ∙ flat_map-append g before (i ∷ is) in
    let f : Stands s.hart.memory (start_of p c t) (flat_map g before ++ (g i ++ flat_map g is)) =
    subst (λ (y : List Inst). Stands s.hart.memory (start_of p c t) y) d b in
    (stands-split s.hart.memory (part_end p c t before) (g i) (flat_map g is)
    (stands-split s.hart.memory (start_of p c t) (flat_map g before) (g i ++ flat_map g is) f).1).0

-- and within the image
part-inside : (p : Program) (args : List ℕ) (limits : Limits) (c t : ℕ) (x : Thread) (before : List Instr) (i : Instr) (is : List Instr)
    → InThread p args limits c t x → x.instrs ≡ before ++ i ∷ is
    → part_end p c t before + 4 * length (expanded (code_text p c).slots (start_of p c) c i) ≤ 4 * words_in_all p
part-inside p args limits c t x before i is k e =
    let g : Instr → List Inst = expanded (code_text p c).slots (start_of p c) c in
    let d : flat_map g x.instrs ≡ flat_map g before ++ (g i ++ flat_map g is) = ap (λ (y : List Instr). flat_map g y) e ∙ flat_map-append g before (i ∷ is) in
    let a : length (flat_map g x.instrs) ≡ length (flat_map g before) + (length (g i) + length (flat_map g is)) =
    ap (λ (y : List Inst). length y) d
    ∙ (length-append (flat_map g before) (g i ++ flat_map g is) ∙ ap (λ (y : ℕ). length (flat_map g before) + y) (length-append (g i) (flat_map g is))) in
    let b : length (flat_map g x.instrs ++ stop) ≡ length (flat_map g x.instrs) + 1 = length-append (flat_map g x.instrs) stop in
    let w : length (thread_insts p c x) ≡ thread_words x = thread-long p c x in
    let f : start_of p c t + 4 * thread_words x ≤ 4 * words_in_all p = thread-inside p c t x k.code_there k.is_thread in
    omega arith

-- from within a thread to its stop
pub folds : Instructs → (p : Program) (args : List ℕ) (limits : Limits) (f c t : ℕ) (x : Thread) (Q : Machine → Type 0) → InThread p args limits c t x
    → CarriedOn p limits f Q → (is before : List Instr) (m n : Machine) (s : Host) → x.instrs ≡ before ++ is
    → RelatedAt (part_end p c t before) p limits m s → m.table.current ≡ Some f → code_at m f ≡ c → Q m → done_thread Giving m f is ≡ Fine n
    → ComesToStop (28 * length is) p limits s f c t x n Q
folds ins p args limits f c t x Q k carry [] before m n s e r cu co q d =
    let a : before ++ [] ≡ before = append-nil before in
    let b : part_end p c t before ≡ part_end p c t x.instrs = ap (λ (y : List Instr). part_end p c t y) (sym a ∙ sym e) in
    record {
      machine = m;
      comes = record {
        host = s;
        onward = record { took = 0; few = omega arith; counted = omega arith; goes = λ j. ap (λ (y : ℕ). to_poll y s) (zero-plus j) };
        there = record { related = r.related; at = r.at ∙ b };
      };
      current = cu;
      code = co;
      carried = q;
      stops = d;
    }
  where
    zero-plus : (j : ℕ) → 0 + j ≡ j
    zero-plus j = omega arith
folds ins p args limits f c t x Q k carry (i ∷ is) before m n s e r cu co q d =
    let g : Instr → List Inst = expanded (code_text p c).slots (start_of p c) c in
    let h = then-done m f is n (done Giving m f i) d in
    let may : MayDo p (code_text p c) i = may-do p args limits c t x i k (subst (λ (y : List Instr). In i y) (sym e) (right-in i before (i ∷ is) (inl refl))) in
    let may1 : MayDo p (text_at p m f) i = subst (λ (y : ℕ). MayDo p (code_text p y) i) (sym co) may in
    let pc : ℕ = part_end p c t before in
    let st : Stands s.hart.memory pc (g i) = part-stands p args limits m s c t pc x before i is k e r in
    let st1 : Stands s.hart.memory pc (expanded (text_at p m f).slots (start_of p (code_at m f)) (code_at m f) i) =
    subst (λ (y : ℕ). Stands s.hart.memory pc (expanded (code_text p y).slots (start_of p y) y i)) (sym co) st in
    let one : ComesTo 28 (pc + 4 * length (expanded (text_at p m f).slots (start_of p (code_at m f)) (code_at m f) i)) p limits s h.0 =
    ins p args limits m h.0 s f pc i k.may r cu may1 (omega arith) st1
    (subst (λ (y : ℕ). pc + 4 * length (expanded (code_text p y).slots (start_of p y) y i) ≤ 4 * words_in_all p) (sym co)
    (part-inside p args limits c t x before i is k e)) h.1 in
    let kp : Keeps m h.0 = done-keeps m h.0 f i h.1 in
    let le : length (expanded (text_at p m f).slots (start_of p (code_at m f)) (code_at m f) i) ≡ length (g i) =
    ap (λ (y : ℕ). length (expanded (code_text p y).slots (start_of p y) y i)) co in
    let fb : flat_map g (before ++ i ∷ []) ≡ flat_map g before ++ (g i ++ []) = flat_map-append g before (i ∷ []) in
    let lb : length (flat_map g (before ++ i ∷ [])) ≡ length (flat_map g before) + (length (g i) + 0) =
    ap (λ (y : List Inst). length y) fb ∙ (length-append (flat_map g before) (g i ++ []) ∙ ap (λ (y : ℕ). length (flat_map g before) + y)
    (length-append (g i) [])) in
    let at : pc + 4 * length (expanded (text_at p m f).slots (start_of p (code_at m f)) (code_at m f) i) ≡ part_end p c t (before ++ i ∷ []) = omega arith in
    let one1 : ComesTo 28 (part_end p c t (before ++ i ∷ [])) p limits s h.0 = subst (λ (y : ℕ). ComesTo 28 y p limits s h.0) at one in
    let e1 : x.instrs ≡ (before ++ i ∷ []) ++ is = e ∙ sym (append_assoc before (i ∷ []) is) in
    let rest : ComesToStop (28 * length is) p limits one1.host f c t x n Q =
    folds ins p args limits f c t x Q k carry is (before ++ i ∷ []) h.0 n one1.host e1 one1.there (kp.current ∙ cu)
    (ap (λ (y : List ℕ). slice_index y f) kp.codes ∙ co)
    (carry m h.0 s i pc r cu may1 h.1 q) h.2 in
    let cs : ComesTo (28 + 28 * length is) (part_end p c t x.instrs) p limits s rest.machine =
    comes-on 28 (28 * length is) (part_end p c t (before ++ i ∷ [])) (part_end p c t x.instrs) p limits s h.0 rest.machine one1 rest.comes in
    let sum : 28 + 28 * length is ≡ 28 * length (i ∷ is) = omega arith in
    record {
      machine = rest.machine;
      comes = subst (λ (y : ℕ). ComesTo y (part_end p c t x.instrs) p limits s rest.machine) sum cs;
      current = rest.current;
      code = rest.code;
      carried = rest.carried;
      stops = rest.stops;
    }
