-- The codes of a program, one by one: the first fault, and what is known where there is none.
use Rattle.std.proofs.Common.{◌≡◌, ℕ, zero, suc, ◌+◌, ◌<◌, ◌≤◌, nat_lt, ◌||◌, ◌&&◌, ◌==◌, Bool, true, false, List, [], ◌∷◌, ◌++◌, flat_map, length, take}
use Rattle.std.proofs.Common.{refl, sym, ap, ◌∙◌, arith, tests, inl, inr, subst, true≢false}
use Rattle.std.proofs.lemmas.Grind.{flat_map-append}
use Rattle.std.proofs.lemmas.List.{append-nil}
use Rattle.tam_word.specs.Lists.{below, beyond, where_so}
use Rattle.tam_word.proofs.Each.{last-or_before}
use Rattle.tam_word.proofs.Members.{none-left, none-right, map-none}
use Rattle.tam_word.proofs.Sifted.{flat_map-below_none}
use Rattle.tl0_code.specs.declared.bad_cause.BadCause.{BadCause}
use Rattle.tl0_code.specs.declared.bad_cause.BadCause.TheVariants as bad
use Rattle.tl0_code.specs.ThreadCode.{CodeText, Program, code_text, HasProgramLimits, IsCodeText}
use Rattle.tl0_code.specs.CodeRules.{faults_of_head, faults_on, faults_in, IsChecked}
use Rattle.tl0_check.specs.FirstFault.{is_bad_frame}
use Rattle.tl0_check.proofs.Lines.{first-left, none-taken}

-- what holds below n and at n holds below n + 1
pub below-next : (P : ℕ → Type 0) (n : ℕ) → ((m : ℕ) → m < n → P m) → P n → (m : ℕ) → m < n + 1 → P m
below-next P n before here m l =
    let next : m < suc n = omega arith in
    elim (last-or_before m n next) [ inl b ↦ before m b | inr e ↦ subst P (sym e) here ]

module _ {X : Type 0} (give : ℕ → List X) (k : ℕ) (x : X) (before : (m : ℕ) → m < k → give m ≡ []) (here : take 1 (give k) ≡ x ∷ []) where
  -- the first number that gives something
  pub first-given : (n : ℕ) → k < n → take 1 (flat_map give (below n)) ≡ x ∷ []
  first-given zero l = absurd (omega arith)
  first-given (suc n) l =
      let joined = flat_map-append give (below n) (n ∷ []) in
      elim (last-or_before k n l) [
        | inl b ↦ ap (take 1) joined ∙ first-left (flat_map give (below n)) (give n ++ []) x (first-given n b)
        | inr e ↦ ap (take 1) (joined ∙ ap (λ (xs : List X). xs ++ (give n ++ [])) (flat_map-below_none give n (λ m b. before m (omega (arith, b, e))))
            ∙ append-nil (give n) ∙ ap give (sym e)) ∙ here
      ]

-- ---- heads

-- a cause that isn't told doesn't hold
not-told : (b : Bool) (x : BadCause) → where_so b x ≡ [] → b ≡ false
not-told false x h = refl
not-told true x h = absurd cc

-- where a head has no fault, there are few params and results
pub few-places : (p : Program) (n : ℕ) (c : CodeText) → [] ≡ take 1 (faults_of_head p n c) → (c.params ≤ 64) × (c.results ≤ 64)
few-places p n c h =
    let frame : is_bad_frame c ≡ false =
    not-told (is_bad_frame c) bad.Frame (none-left (where_so (is_bad_frame c) bad.Frame) (where_so ((n == 0) && beyond p.main (length p.codes)) bad.Main)
    (none-taken (faults_of_head p n c) h)) in
    (in-range c.params c.results (nat_lt c.slots 2) (nat_lt (length c.inlets) c.params) frame)
  where
    in-range : (m k : ℕ) (s t : Bool) → (s || (t || (nat_lt 64 m || nat_lt 64 k))) ≡ false → (m ≤ 64) × (k ≤ 64)
    in-range m k true t e = absurd (true≢false e)
    in-range m k false true e = absurd (true≢false e)
    in-range m k false false e = (grind (arith, tests), grind (arith, tests))

-- where the first code has no fault, `main` is there
main-there : (p : Program) → faults_in p 0 ≡ [] → p.main < length p.codes
main-there p h =
    let c : CodeText = code_text p 0 in
    let head : faults_of_head p 0 c ≡ [] =
    map-none (λ (cause : BadCause). (0, 0, cause)) (faults_of_head p 0 c) (none-left (faults_on 0 (0, faults_of_head p 0 c)) _ h) in
    let absent : Bool = beyond p.main (length p.codes) in
    let main : absent ≡ false = not-told absent bad.Main (none-right (where_so (is_bad_frame c) bad.Frame) (where_so absent bad.Main) head) in
    go (nat_lt p.main (length p.codes)) refl main
  where
    go : (b : Bool) → nat_lt p.main (length p.codes) ≡ b → beyond p.main (length p.codes) ≡ false → p.main < length p.codes
    go true e m = grind (arith, tests)
    go false e m = absurd (true≢false (rw (beyond, e) at m))

-- ---- programs

-- a program all of whose codes were looked at
pub program-checked : (p : Program) → HasProgramLimits p → ((n : ℕ) → n < length p.codes → faults_in p n ≡ [])
    → ((n : ℕ) → n < length p.codes → IsCodeText (code_text p n)) → IsChecked p
program-checked p h clean words =
    let main : p.main < length p.codes = main-there p (clean 0 h.some_code) in
    record {
      within = record {
        some_code = h.some_code;
        few_codes = h.few_codes;
        each_code = words;
        few_instrs = h.few_instrs;
        word = omega (arith, main, h.few_codes);
      };
      main = main;
      clean = flat_map-below_none (faults_in p) (length p.codes) clean;
    }
