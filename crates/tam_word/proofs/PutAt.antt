-- What stands at the places of a list once an element is put at one of them.
use Rattle.std.proofs.Common.{◌≡◌, ◌≢◌, ℕ, zero, suc, true, false, ◌==◌, List, [], ◌∷◌, slice_index_or, refl, subst, arith, inl, inr, ◌⊎◌, ⊎_elim}
use Rattle.tam_word.specs.Lists.{put_at}
use Rattle.tam_word.proofs.Tests.{eq-number, differs-number}

-- at its own place stands what was put
pub put_at-here : {X : Type 0} (blank : X) (n : ℕ) (x : X) (xs : List X) → slice_index_or (put_at blank n x xs) n blank ≡ x
put_at-here blank zero x [] = refl
put_at-here blank (suc n) x [] = put_at-here blank n x []
put_at-here blank zero x (y ∷ ys) = refl
put_at-here blank (suc n) x (y ∷ ys) = put_at-here blank n x ys

-- each place is that one, or has what it had; past the end is the blank
pub put_at-cases : {X : Type 0} (blank : X) (n : ℕ) (x : X) (xs : List X) (m : ℕ)
    → (n ≡ m) ⊎ ((n ≢ m) × (slice_index_or (put_at blank n x xs) m blank ≡ slice_index_or xs m blank))
put_at-cases blank zero x xs zero = inl refl
put_at-cases blank zero x [] (suc m) = inr ((λ e. absurd (omega arith)), refl)
put_at-cases blank zero x (y ∷ ys) (suc m) = inr ((λ e. absurd (omega arith)), refl)
put_at-cases blank (suc n) x [] zero = inr ((λ e. absurd (omega arith)), refl)
put_at-cases blank (suc n) x (y ∷ ys) zero = inr ((λ e. absurd (omega arith)), refl)
put_at-cases blank (suc n) x [] (suc m) =
    ⊎_elim (λ e. inl (omega (arith, e))) (λ h. inr ((λ e. h.0 (omega (arith, e))), h.1)) (put_at-cases blank n x [] m)
put_at-cases blank (suc n) x (y ∷ ys) (suc m) =
    ⊎_elim (λ e. inl (omega (arith, e))) (λ h. inr ((λ e. h.0 (omega (arith, e))), h.1)) (put_at-cases blank n x ys m)

-- the same by the test of the places
pub slice_index_or-put_at : {X : Type 0} (blank : X) (n : ℕ) (x : X) (xs : List X) (m : ℕ)
    → slice_index_or (put_at blank n x xs) m blank ≡ elim (n == m) [ true ↦ x | false ↦ slice_index_or xs m blank ]
slice_index_or-put_at {X} blank n x xs m = ⊎_elim here (λ h. rw (differs-number n m h.0) h.1) (put_at-cases blank n x xs m)
  where
    here : n ≡ m → slice_index_or (put_at blank n x xs) m blank ≡ elim (n == m) [ true ↦ x | false ↦ slice_index_or xs m blank ]
    here e = rw (eq-number n m e) (subst (λ k. slice_index_or (put_at blank n x xs) k blank ≡ x) e (put_at-here blank n x xs))
