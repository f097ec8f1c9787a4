-- What checked code has: each head, inlet, thread and instruction is without a fault.
use Rattle.std.proofs.Common.{◌≡◌, ℕ, ◌+◌, ◌<◌, ◌≤◌, List, [], ◌∷◌, ◌++◌, length, map, flat_map, refl, ap, arith, true, false, Bool, true≢false}
use Rattle.std.proofs.Common.{tests, nat_lt, ◌||◌, ◌&&◌, ◌==◌, inl, inr}
use Rattle.tam_word.specs.Lists.{below, any_of, beyond, where_so, placed_from}
use Rattle.tam_word.proofs.Members.{In, left-in, right-in, map-in, flat_map-in, below-in, flat_map-none, map-none, none-left, none-right}
use Rattle.tl0_code.specs.declared.inlet.Inlet.{Inlet}
use Rattle.tl0_code.specs.declared.instr.Instr.{Instr}
use Rattle.tl0_code.specs.declared.instr.Instr.TheVariants.{Falloc, Send, Ret, Ialloc, Ifetch, Istore}
use Rattle.tl0_code.specs.declared.bad_cause.BadCause.{BadCause}
use Rattle.tl0_code.specs.declared.bad_cause.BadCause.TheVariants as bad
use Rattle.tl0_code.specs.ThreadCode.{Thread, CodeText, Program, code_text}
use Rattle.tl0_code.specs.CodeRules.{faults_of_instr, faults_of_head, faults_of_inlet, faults_of_thread, faults_of_code, faults_on, faults_in}
use Rattle.tl0_code.specs.CodeRules.{has_bad_inlet, IsChecked}
use Rattle.rv_keep.proofs.Slotting.{no-cause, not-beyond}

-- an element is placed somewhere
placed-in : {X : Type 0} (xs : List X) (n : ℕ) (x : X) → In x xs → (k : ℕ) × In (k, x) (placed_from n xs)
placed-in [] n x h = absurd h
placed-in (z ∷ xs) n x (inl p) = (n, inl (ap (λ y. (n, y)) p))
placed-in (z ∷ xs) n x (inr h) = let r = placed-in xs (n + 1) x h in (r.0, inr r.1)

-- no line of a code has a fault
line-clean : (p : Program) (n : ℕ) (line : List BadCause) → IsChecked p → n < length p.codes → In line (faults_of_code p n (code_text p n)) → line ≡ []
line-clean p n line c l i =
    let a : faults_in p n ≡ [] = flat_map-none (faults_in p) (below (length p.codes)) c.clean n (below-in n (length p.codes) l) in
    let r = placed-in (faults_of_code p n (code_text p n)) 0 line i in
    let b : faults_on n (r.0, line) ≡ [] = flat_map-none (faults_on n) (placed_from 0 (faults_of_code p n (code_text p n))) a (r.0, line) r.1 in
    map-none (λ cause. (n, r.0, cause)) line b

-- where neither holds, none does
neither : (s t : Bool) → (s || t) ≡ false → (s ≡ false) × (t ≡ false)
neither true t h = absurd (true≢false h)
neither false t h = (refl, h)

-- a number that isn't below another is at least it
pub at-least : (x n : ℕ) → nat_lt x n ≡ false → n ≤ x
at-least x n h = grind (arith, tests)

-- a cause that isn't told behind another isn't there
last-cause : (s t : Bool) (x y : BadCause) → where_so s x ++ where_so t y ≡ [] → t ≡ false
last-cause false false x y e = refl
last-cause true false x y e = refl
last-cause false true x y e = absurd cc
last-cause true true x y e = absurd cc

-- nor is one that isn't told alone
only-cause : (t : Bool) (x : BadCause) → where_so t x ≡ [] → t ≡ false
only-cause false x e = refl
only-cause true x e = absurd cc

-- what a code's head may have besides
abbrev main-fault : Program → ℕ → List BadCause
main-fault p n = where_so ((n == 0) && beyond p.main (length p.codes)) bad.Main

-- the numbers of a code's head
pub record HeadIs (c : CodeText) : Type 0 where
  pub two_slots : 2 ≤ c.slots
  pub params_there : c.params ≤ length c.inlets
  pub few_params : c.params ≤ 64
  pub few_results : c.results ≤ 64

-- they are in their ranges
pub head-is : (p : Program) (n : ℕ) → IsChecked p → n < length p.codes → HeadIs (code_text p n)
head-is p n c l =
    let t : CodeText = code_text p n in
    let a : faults_of_head p n t ≡ [] = line-clean p n (faults_of_head p n t) c l (inl refl) in
    let b = neither (nat_lt t.slots 2) (nat_lt (length t.inlets) t.params || (nat_lt 64 t.params || nat_lt 64 t.results))
    (no-cause (nat_lt t.slots 2 || (nat_lt (length t.inlets) t.params || (nat_lt 64 t.params || nat_lt 64 t.results))) bad.Frame (main-fault p n) a) in
    let d = neither (nat_lt (length t.inlets) t.params) (nat_lt 64 t.params || nat_lt 64 t.results) b.1 in
    let e = neither (nat_lt 64 t.params) (nat_lt 64 t.results) d.1 in
    record {
      two_slots = at-least t.slots 2 b.0;
      params_there = at-least (length t.inlets) t.params d.0;
      few_params = at-least 64 t.params e.0;
      few_results = at-least 64 t.results e.1;
    }

-- an inlet names a slot and a thread that are there
pub inlet-there : (p : Program) (n : ℕ) (i : Inlet) → IsChecked p → n < length p.codes → In i (code_text p n).inlets
    → (i.slot < (code_text p n).slots) × (i.thread < length (code_text p n).threads)
inlet-there p n i c l k =
    let t : CodeText = code_text p n in
    let a : faults_of_inlet t i ≡ [] =
    line-clean p n (faults_of_inlet t i) c l (inr (left-in (faults_of_inlet t i) (map (faults_of_inlet t) t.inlets) (flat_map (faults_of_thread p t) t.threads)
    (map-in (faults_of_inlet t) i t.inlets k))) in
    let u : beyond i.slot t.slots ≡ false = no-cause (beyond i.slot t.slots) bad.Slot (where_so (beyond i.thread (length t.threads)) bad.Thread) a in (
      not-beyond i.slot t.slots u,
      not-beyond i.thread (length t.threads) (last-cause (beyond i.slot t.slots) (beyond i.thread (length t.threads)) bad.Slot
          bad.Thread a),
    )

-- a thread's lines are lines of its code
thread-lines : (p : Program) (n : ℕ) (t : Thread) (line : List BadCause) → IsChecked p → n < length p.codes → In t (code_text p n).threads
    → In line (faults_of_thread p (code_text p n) t) → line ≡ []
thread-lines p n t line c l k i =
    let x : CodeText = code_text p n in
    line-clean p n line c l (inr (right-in line (map (faults_of_inlet x) x.inlets) (flat_map (faults_of_thread p x) x.threads)
    (flat_map-in (faults_of_thread p x) t line x.threads k i)))

-- a thread's entry count is from 1 to 65,535
pub count-there : (p : Program) (n : ℕ) (t : Thread) → IsChecked p → n < length p.codes → In t (code_text p n).threads → (1 ≤ t.count) × (t.count ≤ 65535)
count-there p n t c l k =
    let a : where_so (nat_lt t.count 1 || nat_lt 65535 t.count) bad.Frame ≡ [] =
    thread-lines p n t (where_so (nat_lt t.count 1 || nat_lt 65535 t.count) bad.Frame) c l k (inl refl) in
    let b = neither (nat_lt t.count 1) (nat_lt 65535 t.count) (only-cause (nat_lt t.count 1 || nat_lt 65535 t.count) bad.Frame a) in
    (at-least t.count 1 b.0, at-least 65535 t.count b.1)

-- and its instructions have no fault
pub instr-clean : (p : Program) (n : ℕ) (t : Thread) (i : Instr) → IsChecked p → n < length p.codes → In t (code_text p n).threads → In i t.instrs
    → faults_of_instr p (code_text p n) i ≡ []
instr-clean p n t i c l k j =
    let x : CodeText = code_text p n in
    thread-lines p n t (faults_of_instr p x i) c l k
    (inr (left-in (faults_of_instr p x i) (map (faults_of_instr p x) t.instrs) ([] ∷ []) (map-in (faults_of_instr p x) i t.instrs j)))

-- a wish for a frame names a code that is there
pub callee-there : (p : Program) (c : CodeText) (d i : ℕ) → faults_of_instr p c (Falloc d i) ≡ [] → d < length p.codes
callee-there p c d i e =
    not-beyond d (length p.codes)
    (no-cause (beyond d (length p.codes)) bad.Callee [] (none-right (where_so (has_bad_inlet p c (Falloc d i)) bad.Inlet)
    (where_so (beyond d (length p.codes)) bad.Callee ++ []) e))

-- and an inlet that is there
pub asked-inlet : (p : Program) (c : CodeText) (d i : ℕ) → faults_of_instr p c (Falloc d i) ≡ [] → i < length c.inlets
asked-inlet p c d i e =
    let t : Bool = nat_lt d (length p.codes) && beyond (i + (code_text p d).results) (length c.inlets) in
    let a : (beyond i (length c.inlets) || t) ≡ false =
    no-cause (beyond i (length c.inlets) || t) bad.Inlet (where_so (beyond d (length p.codes)) bad.Callee ++ []) e in
    not-beyond i (length c.inlets) (neither (beyond i (length c.inlets)) t a).0

-- a result that is sent is there
pub place-there : (p : Program) (c : CodeText) (k a : ℕ) → faults_of_instr p c (Ret k a) ≡ [] → k < c.results
place-there p c k a e =
    not-beyond k c.results (only-cause (beyond k c.results) bad.Place
    (none-right (where_so (any_of (λ s. beyond s c.slots) (a ∷ [])) bad.Slot) (where_so (beyond k c.results) bad.Place) e))

-- a word is sent to a place of at most 63
pub sent-place : (p : Program) (c : CodeText) (f k a : ℕ) → faults_of_instr p c (Send f k a) ≡ [] → k ≤ 63
sent-place p c f k a e =
    at-least 63 k (only-cause (nat_lt 63 k) bad.Inlet (none-left (where_so (nat_lt 63 k) bad.Inlet) []
    (none-right (where_so (any_of (λ s. beyond s c.slots) (f ∷ a ∷ [])) bad.Slot) (where_so (nat_lt 63 k) bad.Inlet ++ []) e)))

-- the inlet for an array is there
pub array-inlet : (p : Program) (c : CodeText) (n i : ℕ) → faults_of_instr p c (Ialloc n i) ≡ [] → i < length c.inlets
array-inlet p c n i e =
    not-beyond i (length c.inlets) (only-cause (beyond i (length c.inlets)) bad.Inlet (none-left (where_so (beyond i (length c.inlets)) bad.Inlet) []
    (none-right (where_so (any_of (λ s. beyond s c.slots) (n ∷ [])) bad.Slot) (where_so (beyond i (length c.inlets)) bad.Inlet ++ []) e)))

-- the inlet and the node of a fetch
fetch-causes : (p : Program) (c : CodeText) (r x i n : ℕ) → faults_of_instr p c (Ifetch r x i n) ≡ []
    → where_so (beyond i (length c.inlets)) bad.Inlet ++ where_so (nat_lt 1023 n) bad.Place ≡ []
fetch-causes p c r x i n e =
    none-right (where_so (any_of (λ s. beyond s c.slots) (r ∷ x ∷ [])) bad.Slot) (where_so (beyond i (length c.inlets)) bad.Inlet
    ++ where_so (nat_lt 1023 n) bad.Place) e

-- the inlet is there
pub fetch-inlet : (p : Program) (c : CodeText) (r x i n : ℕ) → faults_of_instr p c (Ifetch r x i n) ≡ [] → i < length c.inlets
fetch-inlet p c r x i n e =
    not-beyond i (length c.inlets) (no-cause (beyond i (length c.inlets)) bad.Inlet (where_so (nat_lt 1023 n) bad.Place) (fetch-causes p c r x i n e))

-- the node is at most 1,023
pub fetch-node : (p : Program) (c : CodeText) (r x i n : ℕ) → faults_of_instr p c (Ifetch r x i n) ≡ [] → n ≤ 1023
fetch-node p c r x i n e =
    at-least 1023 n (last-cause (beyond i (length c.inlets)) (nat_lt 1023 n) bad.Inlet bad.Place (fetch-causes p c r x i n e))

-- so is that of a store
pub store-node : (p : Program) (c : CodeText) (r x a n : ℕ) → faults_of_instr p c (Istore r x a n) ≡ [] → n ≤ 1023
store-node p c r x a n e =
    at-least 1023 n (only-cause (nat_lt 1023 n) bad.Place
    (none-right (where_so (any_of (λ s. beyond s c.slots) (r ∷ x ∷ a ∷ [])) bad.Slot) (where_so (nat_lt 1023 n) bad.Place) e))
