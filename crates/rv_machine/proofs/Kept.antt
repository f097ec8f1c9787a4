-- Instructions that are kept stay those of their words.
use Rattle.std.proofs.Common.{◌≡◌, ℕ, zero, suc, ◌+◌, ◌*◌, ◌/◌, ◌%◌, ◌<◌, ◌≤◌, List, [], ◌∷◌}
use Rattle.std.proofs.Common.{◌++◌, length, get_or, set, replicate, refl, sym, ap, ◌∙◌, arith, ◌⊎◌, inl, inr, ◌≢◌}
use Rattle.std.proofs.lemmas.Bool.{cases_eq}
use Rattle.std.proofs.lemmas.List.{get_or_read, get_or-set_same, get_or-set_other, length-set, length-replicate, length-append}
use Rattle.rv_inst.specs.Instructions.{decoded}
use Rattle.rv_inst.specs.Harts.{Hart, Done, read_at, written_at}
use Rattle.rv_inst.specs.Images.{bytes_of_words}
use Rattle.rv_inst.proofs.Bytes.{length-bytes_of_words}
use Rattle.rv_inst.proofs.Memory.{length-written, read-before, read-behind}
use Rattle.rv_inst.proofs.Signed.{below-or-not}
use Rattle.rv_machine.specs.declared.kept_inst.KeptInst.{KeptInst}
use Rattle.rv_machine.specs.Keeping.{AreDecoded, told, unknown, step_at}
use Rattle.rv_machine.specs.Runs.{at}
use Rattle.std.specs.Prelude.{Option, Some, None, IfSome}
use Rattle.rv_inst.specs.declared.inst.Inst.{Inst}
use Rattle.rv_inst.specs.Execution.{hart_step}
use Rattle.std.proofs.lemmas.Grind.{common_steps}

-- the entry behind a list of unknown ones is unknown too
get_or-unknown : (n k : ℕ) → get_or (replicate n unknown) k unknown ≡ unknown
get_or-unknown zero k = refl
get_or-unknown (suc n) zero = refl
get_or-unknown (suc n) (suc k) = get_or-unknown n k

-- what is known stands in the list
within : (kept : List KeptInst) (k : ℕ) (i : Inst) → told (get_or kept k unknown) ≡ Some i → k < length kept
within [] k i e = absurd (cc)
within (x ∷ xs) zero i e = omega arith
within (x ∷ xs) (suc k) i e = let h = within xs k i e in omega arith

-- where no instruction is known, none is wrong
pub unknown-decoded : (n : ℕ) (memory : List ℕ) → 4 * n ≤ length memory → AreDecoded (replicate n unknown) memory
unknown-decoded n memory h = record {
  room = omega (arith, length-replicate {A = KeptInst} n unknown);
  each = λ k i e. let u : told (get_or (replicate n unknown) k unknown) ≡ None = ap (λ (x : KeptInst). told x) (get_or-unknown n k) in absurd (cc);
}

-- so it is in a memory that begins with the bytes of as many words, or of more
pub opening-decoded : (kept : List KeptInst) (n : ℕ) (memory ws rest : List ℕ) → kept ≡ replicate n unknown → n ≤ length ws
    → memory ≡ bytes_of_words ws ++ rest → AreDecoded kept memory
opening-decoded kept n memory ws rest k few e =
    let l : length memory ≡ length (bytes_of_words ws ++ rest) = ap length e in
    rw k (unknown-decoded n memory (omega (arith, few, length-append (bytes_of_words ws) rest, length-bytes_of_words ws)))

-- an instruction that is found at an address is that of the word there
pub found-decoded : (kept : List KeptInst) (memory : List ℕ) (a : ℕ) (found : KeptInst) → AreDecoded kept memory → a % 4 ≡ 0 → a / 4 < length kept
    → found ≡ get_or kept (a / 4) found
    → (a + 4 ≤ length memory) × ((i : Inst) → told found ≡ Some i → decoded (read_at memory a 4) ≡ i ∷ [])
found-decoded kept memory a found t h l e =
    let s : a ≡ 4 * (a / 4) = omega arith in
    let g : get_or kept (a / 4) unknown ≡ found = sym (get_or_read kept (a / 4) found l e unknown) in
    let r : 4 * length kept ≤ length memory = t.room in (
      omega arith,
      λ i told_here.
          ap (λ (x : ℕ). decoded (read_at memory x 4)) s ∙ t.each (a / 4) i (ap (λ (x : KeptInst). told x) g ∙ told_here),
    )

-- where an entry tells the instruction of the word at pc, or none, the step at the entry is the machine's
pub step_at-known : (h : Hart) (entry : Option Inst) → h.pc + 4 ≤ length h.memory → ((i : Inst) → entry ≡ Some i → decoded (read_at h.memory h.pc 4) ≡ i ∷ [])
    → step_at h entry ≡ hart_step h
step_at-known h None l known = refl
step_at-known h (Some i) l known = let d : decoded (read_at h.memory h.pc 4) ≡ i ∷ [] = known i refl in grind (arith, common_steps)

-- so where the step at the entry goes on to an address, whatever the number of steps, the machine's does
pub known-goes_on : (old new : Hart) (pc : ℕ) (entry : Option Inst) (out : Option ℕ) → pc + 4 ≤ length old.memory
    → ((i : Inst) → entry ≡ Some i → decoded (read_at old.memory pc 4) ≡ i ∷ [])
    → IfSome out (λ to. (n : ℕ) → step_at (at old pc n) entry ≡ Done (at new to (n + 1)))
    → IfSome out (λ to. (n : ℕ) → hart_step (at old pc n) ≡ Done (at new to (n + 1)))
known-goes_on old new pc entry None l known goes = tt
known-goes_on old new pc entry (Some to) l known goes = λ n. sym (step_at-known (at old pc n) entry l known) ∙ goes n

-- a write within a word leaves each other word as it was
other-read : (memory : List ℕ) (a n w k : ℕ) → a % 4 + n ≤ 4 → a + n ≤ length memory → k ≢ a / 4
    → read_at (written_at memory a n w) (4 * k) 4 ≡ read_at memory (4 * k) 4
other-read memory a n w k h l q = go (below-or-not k (a / 4))
  where
    go : (k < a / 4) ⊎ (a / 4 ≤ k) → read_at (written_at memory a n w) (4 * k) 4 ≡ read_at memory (4 * k) 4
    go (inl b) = read-before memory a n w (4 * k) 4 (omega arith) (omega arith)
    go (inr b) = read-behind memory a n w (4 * k) 4 (omega arith) (omega arith)

-- where the instruction of a word that is written to is forgotten, the others stay true
pub forget-decoded : (kept : List KeptInst) (memory : List ℕ) (a n w : ℕ) → AreDecoded kept memory → a % 4 + n ≤ 4 → a + n ≤ length memory
    → a / 4 < length kept
    → AreDecoded (set kept (a / 4) unknown) (written_at memory a n w)
forget-decoded kept memory a n w t h l b = record {
  room = let r : 4 * length kept ≤ length memory = t.room in omega (arith, length-set {A = KeptInst} kept (a / 4) unknown, length-written memory a n w l);
  each = λ k i e. at k i e (cases_eq k (a / 4));
}
  where
    at : (k : ℕ) (i : Inst) → told (get_or (set kept (a / 4) unknown) k unknown) ≡ Some i → (k ≡ a / 4) ⊎ (k ≢ a / 4)
        → decoded (read_at (written_at memory a n w) (4 * k) 4) ≡ i ∷ []
    at k i e (inl q) =
        let g : get_or (set kept (a / 4) unknown) k unknown ≡ unknown =
        ap (λ (x : ℕ). get_or (set kept (a / 4) unknown) x unknown) q ∙ get_or-set_same kept (a / 4) unknown unknown b in
        let u : told (get_or (set kept (a / 4) unknown) k unknown) ≡ None = ap (λ (x : KeptInst). told x) g in
        absurd (cc)
    at k i e (inr q) =
        let g : get_or (set kept (a / 4) unknown) k unknown ≡ get_or kept k unknown = get_or-set_other kept (a / 4) k unknown unknown q in
        ap (λ (x : ℕ). decoded x) (other-read memory a n w k h l q) ∙ t.each k i (sym (ap (λ (x : KeptInst). told x) g) ∙ e)

-- a write behind the words that have a place leaves all true
pub beyond-decoded : (kept : List KeptInst) (memory : List ℕ) (a n w : ℕ) → AreDecoded kept memory → a + n ≤ length memory → length kept ≤ a / 4
    → AreDecoded kept (written_at memory a n w)
beyond-decoded kept memory a n w t l b = record {
  room = let r : 4 * length kept ≤ length memory = t.room in omega (arith, length-written memory a n w l);
  each = λ k i e.
      let m : k < length kept = within kept k i e in
      ap (λ (x : ℕ). decoded x) (read-before memory a n w (4 * k) 4 (omega arith) (omega arith)) ∙ t.each k i e;
}
