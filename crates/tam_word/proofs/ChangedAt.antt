-- Places of a list with one element changed.
use Rattle.std.proofs.Common.{◌≡◌, ◌≢◌, ℕ, zero, suc, ◌≤◌, List, [], ◌∷◌, length, Some, slice_get, refl, ap, arith}
use Rattle.std.proofs.lemmas.Option.{none-some, same_Some}
use Rattle.tam_word.specs.Lists.{changed_at}

-- the changed one stands at its place
pub changed_at-same : {X : Type 0} (n : ℕ) (f : X → X) (xs : List X) (x : X) → slice_get xs n ≡ Some x
    → slice_get (changed_at n f xs) n ≡ Some (f x)
changed_at-same n f [] x h = absurd (none-some x h)
changed_at-same zero f (y ∷ ys) x h = ap (λ z. Some (f z)) (same_Some y x h)
changed_at-same (suc n) f (y ∷ ys) x h = changed_at-same n f ys x h

-- each other place has what it had
pub changed_at-other : {X : Type 0} (n m : ℕ) (f : X → X) (xs : List X) → n ≢ m → slice_get (changed_at n f xs) m ≡ slice_get xs m
changed_at-other n m f [] h = refl
changed_at-other zero zero f (x ∷ xs) h = absurd (h refl)
changed_at-other zero (suc m) f (x ∷ xs) h = refl
changed_at-other (suc n) zero f (x ∷ xs) h = refl
changed_at-other (suc n) (suc m) f (x ∷ xs) h = changed_at-other n m f xs (λ e. h (ap suc e))

-- past the end nothing is changed
pub changed_at-past : {X : Type 0} (n : ℕ) (f : X → X) (xs : List X) → length xs ≤ n → changed_at n f xs ≡ xs
changed_at-past n f [] h = refl
changed_at-past zero f (x ∷ xs) h = absurd (omega arith)
changed_at-past (suc n) f (x ∷ xs) h = ap (λ l. x ∷ l) (changed_at-past n f xs (omega arith))
