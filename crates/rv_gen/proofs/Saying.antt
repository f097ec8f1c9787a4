-- What checked code names, its machine code can say.
use Rattle.std.proofs.Common.{◌≡◌, ℕ, ◌+◌, ◌<◌, ◌≤◌, List, [], ◌∷◌, length, refl, arith, inl, inr}
use Rattle.std.specs.List.{AllByRecursion}
use Rattle.tam_word.proofs.Members.{In}
use Rattle.tl0_code.specs.declared.instr.Instr.{Instr}
use Rattle.tl0_code.specs.declared.instr.Instr.TheVariants.{Imm, Mov, Op as Operate, Fork, Switch, Falloc, Send, Ret, Ialloc, Ifetch, Istore, Skip}
use Rattle.tl0_code.specs.ThreadCode.{Program, code_text}
use Rattle.tl0_code.specs.CodeRules.{slots_in, threads_in, faults_of_instr, IsChecked}
use Rattle.rv_keep.proofs.Faultless.{faultless, each-below}
use Rattle.rv_keep.proofs.CheckedCode.{head-is, inlet-there, instr-clean, callee-there, place-there, fetch-node, store-node}
use Rattle.rv_gen.specs.Sayable.{IsSayable, AreSayable, IsInletThere}

-- ---- lists

-- what holds of each element holds of all
each : {X : Type 0} (P : X → Type 0) (xs : List X) → ((x : X) → In x xs → P x) → AllByRecursion P xs
each P [] h = tt
each P (x ∷ xs) h = (h x (inl refl), each P xs (λ y m. h y (inr m)))

-- a place below a number is below the next
more : (k n : ℕ) → k < n → k < n + 1
more k n l = omega arith

-- ---- an instruction without a fault

-- a slot that it names is there
slot : (p : Program) (n : ℕ) (i : Instr) (k : ℕ) → faults_of_instr p (code_text p n) i ≡ [] → In k (slots_in i) → k < (code_text p n).slots
slot p n i k e h = each-below (code_text p n).slots (slots_in i) k (faultless p (code_text p n) i e).slots h

-- so is a thread
thread : (p : Program) (n : ℕ) (i : Instr) (k : ℕ) → faults_of_instr p (code_text p n) i ≡ [] → In k (threads_in i) → k < length (code_text p n).threads + 1
thread p n i k e h =
    more k (length (code_text p n).threads) (each-below (length (code_text p n).threads) (threads_in i) k (faultless p (code_text p n) i e).threads h)

-- what checked code knows of an instruction's places, with one address more than threads
sayable : (p : Program) (n : ℕ) (i : Instr) → IsChecked p → n < length p.codes → faults_of_instr p (code_text p n) i ≡ []
    → IsSayable (code_text p n).slots (length (code_text p n).threads + 1) i
sayable p n (Imm d w) c l e = slot p n (Imm d w) d e (inl refl)
sayable p n (Mov d a) c l e = (slot p n (Mov d a) d e (inl refl), slot p n (Mov d a) a e (inr (inl refl)))
sayable p n (Operate o d a b) c l e =
    let i : Instr = Operate o d a b in
    (slot p n i d e (inl refl), slot p n i a e (inr (inl refl)), slot p n i b e (inr (inr (inl refl))))
sayable p n (Fork t) c l e = thread p n (Fork t) t e (inl refl)
sayable p n (Switch s t u) c l e =
    let i : Instr = Switch s t u in
    (slot p n i s e (inl refl), thread p n i t e (inl refl), thread p n i u e (inr (inl refl)))
sayable p n (Falloc d i) c l e =
    let a : d < length p.codes = callee-there p (code_text p n) d i e in
    let b : length p.codes ≤ 256 = c.within.few_codes in
    omega arith
sayable p n (Send f q a) c l e = (slot p n (Send f q a) f e (inl refl), slot p n (Send f q a) a e (inr (inl refl)))
sayable p n (Ret k a) c l e =
    let b : k < (code_text p n).results = place-there p (code_text p n) k a e in
    let d : (code_text p n).results ≤ 64 = (head-is p n c l).few_results in
    (omega arith, slot p n (Ret k a) a e (inl refl))
sayable p n (Ialloc m i) c l e = slot p n (Ialloc m i) m e (inl refl)
sayable p n (Ifetch r x i m) c l e =
    (slot p n (Ifetch r x i m) r e (inl refl), slot p n (Ifetch r x i m) x e (inr (inl refl)), fetch-node p (code_text p n) r x i m e)
sayable p n (Istore r x a m) c l e =
    let i : Instr = Istore r x a m in
    (slot p n i r e (inl refl), slot p n i x e (inr (inl refl)), slot p n i a e (inr (inr (inl refl))), store-node p (code_text p n) r x a m e)
sayable p n (Skip m) c l e = tt

-- ---- a code

-- its threads
pub threads-sayable : (p : Program) (n : ℕ) → IsChecked p → n < length p.codes
    → AllByRecursion (AreSayable (code_text p n).slots (length (code_text p n).threads + 1)) (code_text p n).threads
threads-sayable p n c l =
    each (AreSayable (code_text p n).slots (length (code_text p n).threads + 1)) (code_text p n).threads (λ t k.
    each (IsSayable (code_text p n).slots (length (code_text p n).threads + 1)) t.instrs (λ i j. sayable p n i c l (instr-clean p n t i c l k j)))

-- its inlets
pub inlets-there : (p : Program) (n : ℕ) → IsChecked p → n < length p.codes
    → AllByRecursion (IsInletThere (code_text p n).slots (length (code_text p n).threads + 1)) (code_text p n).inlets
inlets-there p n c l =
    each (IsInletThere (code_text p n).slots (length (code_text p n).threads + 1)) (code_text p n).inlets (λ i k.
    let h = inlet-there p n i c l k in
    (h.0, more i.thread (length (code_text p n).threads) h.1))
