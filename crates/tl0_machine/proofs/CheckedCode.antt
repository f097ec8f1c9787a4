-- What is known of a program that no rule refuses: there is room for each code, and what its lines name stands in each frame.
use Rattle.std.proofs.Common.{◌≡◌, ◌∙◌, ℕ, zero, suc, ◌+◌, ◌<◌, ◌≤◌, nat_lt, ◌||◌, Bool, true, false, List, [], ◌∷◌, ◌++◌, map, flat_map, length}
use Rattle.std.proofs.Common.{refl, sym, subst, arith, tests, inl, inr, true≢false, Some, slice_get}
use Rattle.std.specs.Prelude.{slice_index, Option, None, IfSome}
use Rattle.std.proofs.lemmas.List.{length-map}
use Rattle.tam_word.specs.Lists.{below, any_of, beyond, placed_from, where_so}
use Rattle.tam_word.proofs.Tests.{test-below}
use Rattle.tam_word.proofs.Each.{where_so-nil}
use Rattle.tam_word.proofs.Members.{In, left-in, right-in, map-in, flat_map-in, below-in, in-any, none-left, none-right, map-none, flat_map-none, get-in}
use Rattle.tl0_code.specs.declared.inlet.Inlet.{Inlet}
use Rattle.tl0_code.specs.declared.instr.Instr.{Instr}
use Rattle.tl0_code.specs.declared.instr.Instr.TheVariants.{Imm, Mov, Op as Operate, Fork, Switch, Falloc, Send, Ret, Ialloc, Ifetch, Istore, Skip}
use Rattle.tl0_code.specs.declared.bad_cause.BadCause.{BadCause}
use Rattle.tl0_code.specs.declared.bad_cause.BadCause.TheVariants as bad
use Rattle.tl0_code.specs.ThreadCode.{Thread, CodeText, Program, or_text, or_thread, code_text, thread_at, counts_of, greater, greatest}
use Rattle.tl0_code.specs.ThreadCode.{widest_slots, widest_threads}
use Rattle.tl0_code.specs.CodeRules.{slots_in, threads_in, has_bad_inlet, has_bad_callee, has_bad_place, faults_of_instr, faults_of_head, faults_of_inlet}
use Rattle.tl0_code.specs.CodeRules.{faults_of_thread, faults_of_code, faults_on, faults_in, IsChecked}
use Rattle.tl0_machine.specs.CodeFits.{IsNamed, AreNamed, IsInletNamed}

-- ---- the greatest of numbers

-- the first of two numbers is at most the greater
left-greater : (m n : ℕ) → m ≤ greater m n
left-greater m n = go (nat_lt m n) refl
  where
    go : (b : Bool) → nat_lt m n ≡ b → m ≤ greater m n
    go true e = let l = test-below m n e in rw (greater, e) (omega (arith, l))
    go false e = rw (greater, e) (omega arith)

-- and so is the second
right-greater : (m n : ℕ) → n ≤ greater m n
right-greater m n = go (nat_lt m n) refl
  where
    go : (b : Bool) → nat_lt m n ≡ b → n ≤ greater m n
    go true e = rw (greater, e) (omega arith)
    go false e = rw (greater, e) (grind (arith, tests))

-- a number of the list is at most the greatest
pub in-greatest : (n : ℕ) (ns : List ℕ) → In n ns → n ≤ greatest ns
in-greatest n [] h = absurd h
in-greatest n (m ∷ ns) (inl same) = subst (λ k. k ≤ greater m (greatest ns)) same (left-greater m (greatest ns))
in-greatest n (m ∷ ns) (inr h) =
    let l = in-greatest n ns h in
    let r = right-greater m (greatest ns) in
    omega (arith, l, r)

-- ---- lines without a fault

-- where no line has a fault, this one has none
line-clean : (n k : ℕ) (lines : List (List BadCause)) (line : List BadCause) → flat_map (faults_on n) (placed_from k lines) ≡ [] → In line lines → line ≡ []
line-clean n k [] line h i = absurd i
line-clean n k (x ∷ lines) line h (inl same) =
    sym same ∙ map-none (λ (cause : BadCause). (n, k, cause)) x (none-left (faults_on n (k, x)) (flat_map (faults_on n) (placed_from (k + 1) lines)) h)
line-clean n k (x ∷ lines) line h (inr i) =
    line-clean n (k + 1) lines line (none-right (faults_on n (k, x)) (flat_map (faults_on n) (placed_from (k + 1) lines)) h) i

-- of two tests that don't hold together the first doesn't
or-left : (s t : Bool) → (s || t) ≡ false → s ≡ false
or-left true t h = absurd (true≢false h)
or-left false t h = refl

-- a number that isn't beyond is below
within : (k n : ℕ) → beyond k n ≡ false → k < n
within k n h = go (nat_lt k n) refl
  where
    go : (b : Bool) → nat_lt k n ≡ b → k < n
    go true e = test-below k n e
    go false e = absurd (true≢false (rw (beyond, e) at h))

-- where none is beyond, each is below
all-within : (ks : List ℕ) (n : ℕ) → any_of (λ k. beyond k n) ks ≡ false → (k : ℕ) → In k ks → k < n
all-within ks n h k i = go (beyond k n) refl
  where
    go : (b : Bool) → beyond k n ≡ b → k < n
    go true e = absurd (true≢false (sym (in-any (λ j. beyond j n) ks k i e) ∙ h))
    go false e = within k n e

-- a test that fails bounds the number
not-above : (m n : ℕ) → nat_lt m n ≡ false → n ≤ m
not-above m n h = grind (arith, tests)

-- ---- codes

-- a code that is there is found
pub code-found : (cs : List CodeText) (c : ℕ) → c < length cs → slice_get cs c ≡ Some (or_text (slice_get cs c))
code-found [] c l = absurd (omega arith)
code-found (x ∷ cs) zero l = refl
code-found (x ∷ cs) (suc c) l = code-found cs c (omega arith)

-- the instructions of a thread that is found are those of a thread that is there
thread-found : (ts : List Thread) (t : ℕ) (i : Instr) → In i (or_thread (slice_get ts t)).instrs
    → (u : Thread) × In u ts × In i u.instrs
thread-found [] t i h = absurd h
thread-found (u ∷ ts) zero i h = (u, inl refl, h)
thread-found (u ∷ ts) (suc t) i h = let r = thread-found ts t i h in (r.0, inr r.1, r.2)

-- the first count isn't 0 where none is
first-some : (ts : List Thread) → 0 < length ts → ((u : Thread) → In u ts → 0 < u.count) → 0 < slice_index (map (λ t. t.count) ts) 0
first-some [] l h = absurd (omega arith)
first-some (u ∷ ts) l h = h u (inl refl)

-- what an instruction names is there, where its slots and its threads are and its place is good
named-by : (c : CodeText) (slots threads : ℕ) (i : Instr) → ((s : ℕ) → In s (slots_in i) → s < slots) → ((t : ℕ) → In t (threads_in i) → t < threads)
    → has_bad_place c i ≡ false → IsNamed slots threads i
named-by c slots threads (Imm d w) s t k = s d (inl refl)
named-by c slots threads (Mov d a) s t k = (s d (inl refl), s a (inr (inl refl)))
named-by c slots threads (Operate o d a b) s t k = (s d (inl refl), s a (inr (inl refl)), s b (inr (inr (inl refl))))
named-by c slots threads (Fork u) s t k = t u (inl refl)
named-by c slots threads (Switch a u v) s t k = (s a (inl refl), t u (inl refl), t v (inr (inl refl)))
named-by c slots threads (Falloc d i) s t k = tt
named-by c slots threads (Send r i a) s t k = (s r (inl refl), s a (inr (inl refl)))
named-by c slots threads (Ret j a) s t k = s a (inl refl)
named-by c slots threads (Ialloc n i) s t k = s n (inl refl)
named-by c slots threads (Ifetch r x i n) s t k = let l = not-above 1023 n k in (s r (inl refl), s x (inr (inl refl)), omega (arith, l))
named-by c slots threads (Istore r x a n) s t k =
    let l = not-above 1023 n k in (s r (inl refl), s x (inr (inl refl)), s a (inr (inr (inl refl))), omega (arith, l))
named-by c slots threads (Skip n) s t k = tt

module _ (p : Program) (checked : IsChecked p) where
  module _ (c : ℕ) (there : c < length p.codes) where
    -- the code
    abbrev its-code : CodeText
    its-code = code_text p c

    -- it is one of the program
    code-in : In its-code p.codes
    code-in = get-in p.codes c its-code (code-found p.codes c there)

    -- no line of it has a fault
    its-lines : (line : List BadCause) → In line (faults_of_code p c its-code) → line ≡ []
    its-lines line i =
        line-clean c 0 (faults_of_code p c its-code) line
        (flat_map-none (faults_in p) (below (length p.codes)) checked.clean c (below-in c (length p.codes) there)) i

    -- nor has one of its threads
    line-in : {line : List BadCause} → In line (flat_map (faults_of_thread p its-code) its-code.threads) → line ≡ []
    line-in {line} i = its-lines line (inr (right-in line (map (faults_of_inlet its-code) its-code.inlets) _ i))

    -- it has at least two slots
    its-slots : 2 ≤ its-code.slots
    its-slots =
        let rest : Bool = nat_lt (length its-code.inlets) its-code.params || (nat_lt 64 its-code.params || nat_lt 64 its-code.results) in
        let head : faults_of_head p c its-code ≡ [] = its-lines (faults_of_head p c its-code) (inl refl) in
        not-above its-code.slots 2 (or-left (nat_lt its-code.slots 2) rest (where_so-nil (nat_lt its-code.slots 2 || rest) bad.Frame (none-left _ _ head)))

    -- a frame has room for its slots
    pub slots-fit : its-code.slots ≤ widest_slots p
    slots-fit = in-greatest its-code.slots (map (λ d. d.slots) p.codes) (map-in (λ (d : CodeText). d.slots) its-code p.codes code-in)

    -- and for its threads
    pub threads-fit : length its-code.threads ≤ widest_threads p
    threads-fit =
        in-greatest (length its-code.threads) (map (λ d. length d.threads) p.codes) (map-in (λ (d : CodeText). length d.threads) its-code p.codes code-in)

    -- and for its entry counts
    pub counts-fit : length (counts_of its-code) ≤ widest_threads p
    counts-fit = let l = threads-fit in let m = length-map its-code.threads (λ (t : Thread). t.count) in omega (arith, l, m)

    -- the entry count of a thread isn't 0
    thread-counted : (t : Thread) → In t its-code.threads → 0 < t.count
    thread-counted t i =
        let line = where_so (nat_lt t.count 1 || nat_lt 65535 t.count) bad.Frame in
        let clean : line ≡ [] = line-in (flat_map-in (faults_of_thread p its-code) t line its-code.threads i (inl refl)) in
        let low : 1 ≤ t.count = not-above t.count 1 (or-left (nat_lt t.count 1) (nat_lt 65535 t.count) (where_so-nil _ bad.Frame clean)) in
        omega (arith, low)

    -- that of its first thread isn't
    pub first-counted : 0 < slice_index (counts_of its-code) 0
    first-counted = first-some its-code.threads (checked.within.each_code c there).some_thread thread-counted

    module _ (i : Instr) (clean : faults_of_instr p its-code i ≡ []) where
      -- a slot that an instruction names is there
      slot-there : (s : ℕ) → In s (slots_in i) → s < widest_slots p
      slot-there s m =
          let none = where_so-nil (any_of (λ k. beyond k its-code.slots) (slots_in i)) bad.Slot (none-left _ _ clean) in
          let l = all-within (slots_in i) its-code.slots none s m in
          let fit = slots-fit in
          omega (arith, l, fit)

      -- and so is a thread
      thread-there : (t : ℕ) → In t (threads_in i) → t < widest_threads p
      thread-there t m =
          let none = where_so-nil (any_of (λ k. beyond k (length its-code.threads)) (threads_in i)) bad.Thread (none-left _ _ (none-right _ _ clean)) in
          let l = all-within (threads_in i) (length its-code.threads) none t m in
          let fit = threads-fit in
          omega (arith, l, fit)

      -- what it names is there
      instr-named : IsNamed (widest_slots p) (widest_threads p) i
      instr-named =
          named-by its-code (widest_slots p) (widest_threads p) i slot-there thread-there
          (where_so-nil (has_bad_place its-code i) bad.Place place)
        where
          callee : List BadCause
          callee = where_so (has_bad_callee p i) bad.Callee

          behind : List BadCause
          behind = callee ++ where_so (has_bad_place its-code i) bad.Place

          inlet : List BadCause
          inlet = where_so (has_bad_inlet p its-code i) bad.Inlet

          thread : List BadCause
          thread = where_so (any_of (λ t. beyond t (length its-code.threads)) (threads_in i)) bad.Thread

          place : where_so (has_bad_place its-code i) bad.Place ≡ []
          place = none-right callee _ (none-right inlet behind (none-right thread (inlet ++ behind) (none-right _ (thread ++ (inlet ++ behind)) clean)))

    -- what the instructions of a thread name is there
    pub instrs-named : (t : ℕ) → AreNamed (widest_slots p) (widest_threads p) (thread_at its-code t).instrs
    instrs-named t n i found =
        let at = thread-found its-code.threads t i (get-in (thread_at its-code t).instrs n i found) in
        let line = faults_of_instr p its-code i in
        let inside = map-in (faults_of_instr p its-code) i at.0.instrs at.2 in
        let among = right-in line (_ ∷ []) _ (left-in line (map (faults_of_instr p its-code) at.0.instrs) ([] ∷ []) inside) in
        instr-named i (line-in (flat_map-in (faults_of_thread p its-code) at.0 line its-code.threads at.1 among))

    -- what an inlet names is there
    pub inlet-named : (n : ℕ) (i : Inlet) → slice_get its-code.inlets n ≡ Some i → IsInletNamed (widest_slots p) (widest_threads p) i
    inlet-named n i found =
        let line = faults_of_inlet its-code i in
        let among = map-in (faults_of_inlet its-code) i its-code.inlets (get-in its-code.inlets n i found) in
        let clean : line ≡ [] = its-lines line (inr (left-in line (map (faults_of_inlet its-code) its-code.inlets) _ among)) in
        let s = within i.slot its-code.slots (where_so-nil _ bad.Slot (none-left _ _ clean)) in
        let t = within i.thread (length its-code.threads) (where_so-nil _ bad.Thread (none-right _ _ clean)) in
        let slots = slots-fit in
        let threads = threads-fit in
        (omega (arith, s, slots), omega (arith, t, threads))

    -- the same of one that was looked up
    pub found-named : (n : ℕ) (o : Option Inlet) → o ≡ slice_get its-code.inlets n → IfSome o (IsInletNamed (widest_slots p) (widest_threads p))
    found-named n None is = tt
    found-named n (Some i) is = inlet-named n i (sym is)

  -- a frame has room for the first two slots
  pub first-slots : 2 ≤ widest_slots p
  first-slots =
      let there = checked.within.some_code in
      let two = its-slots 0 there in
      let fit = slots-fit 0 there in
      omega (arith, two, fit)
