-- Tests of all elements of a list, by tests that agree on them.
use Rattle.std.proofs.Common.{◌≡◌, ◌≢◌, ℕ, Bool, true, false, ◌==◌, List, [], ◌∷◌, refl, sym, ap, ◌∙◌, true≢false}
use Rattle.tam_word.specs.Lists.{any_of, all_of, has}
use Rattle.tam_word.proofs.Tests.{number-eq, number-differs}

-- tests that agree agree on all
pub all_of-alike : {X : Type 0} (p q : X → Bool) → ((x : X) → p x ≡ q x) → (xs : List X) → all_of p xs ≡ all_of q xs
all_of-alike p q h [] = refl
all_of-alike p q h (x ∷ xs) = go (p x) refl (q x) refl (all_of-alike p q h xs)
  where
    go : (a : Bool) → p x ≡ a → (b : Bool) → q x ≡ b → all_of p xs ≡ all_of q xs → all_of p (x ∷ xs) ≡ all_of q (x ∷ xs)
    go true d true e i = rw (all_of, d, e) i
    go false d false e i = rw (all_of, d, e) refl
    go true d false e i = absurd (true≢false (sym d ∙ h x ∙ e))
    go false d true e i = absurd (true≢false (sym e ∙ sym (h x) ∙ d))

-- tests that agree but at y agree on all of a list without y
pub all_of-but : (p q : ℕ → Bool) (y : ℕ) → ((x : ℕ) → y ≢ x → p x ≡ q x) → (xs : List ℕ) → has xs y ≡ false → all_of p xs ≡ all_of q xs
all_of-but p q y h [] k = refl
all_of-but p q y h (x ∷ xs) k = go (x == y) refl (all_of-but p q y h xs)
  where
    go : (a : Bool) → (x == y) ≡ a → (has xs y ≡ false → all_of p xs ≡ all_of q xs) → all_of p (x ∷ xs) ≡ all_of q (x ∷ xs)
    go true e i = absurd (true≢false (rw (any_of, e) at k))
    go false e i = step (p x) refl (q x) refl (i (rw (any_of, e) at k))
      where
        step : (s : Bool) → p x ≡ s → (t : Bool) → q x ≡ t → all_of p xs ≡ all_of q xs → all_of p (x ∷ xs) ≡ all_of q (x ∷ xs)
        step true d true f r = rw (all_of, d, f) r
        step false d false f r = rw (all_of, d, f) refl
        step true d false f r = absurd (true≢false (sym d ∙ h x (λ s. number-differs x y e (sym s)) ∙ f))
        step false d true f r = absurd (true≢false (sym f ∙ sym (h x (λ s. number-differs x y e (sym s))) ∙ d))

-- a test that fails at y fails on all of a list with y
pub all_of-fails : (p : ℕ → Bool) (y : ℕ) → p y ≡ false → (xs : List ℕ) → has xs y ≡ true → all_of p xs ≡ false
all_of-fails p y h [] k = absurd (true≢false (sym k))
all_of-fails p y h (x ∷ xs) k = go (p x) refl (x == y) refl (all_of-fails p y h xs)
  where
    go : (a : Bool) → p x ≡ a → (b : Bool) → (x == y) ≡ b → (has xs y ≡ true → all_of p xs ≡ false) → all_of p (x ∷ xs) ≡ false
    go false d b e i = rw (all_of, d) refl
    go true d true e i = absurd (true≢false (sym d ∙ ap p (number-eq x y e) ∙ h))
    go true d false e i = rw (all_of, d) (i (rw (any_of, e) at k))

-- a test that passes wherever another does passes on all where the other does
pub all_of-more : {X : Type 0} (p q : X → Bool) → ((x : X) → p x ≡ true → q x ≡ true) → (xs : List X) → all_of p xs ≡ true → all_of q xs ≡ true
all_of-more p q h [] k = refl
all_of-more p q h (x ∷ xs) k = go (p x) refl (all_of-more p q h xs)
  where
    go : (a : Bool) → p x ≡ a → (all_of p xs ≡ true → all_of q xs ≡ true) → all_of q (x ∷ xs) ≡ true
    go true d i = rw (all_of, h x d) (i (rw (all_of, d) at k))
    go false d i = absurd (true≢false (sym (rw (all_of, d) at k)))
