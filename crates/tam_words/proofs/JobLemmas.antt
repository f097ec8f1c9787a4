-- Lists: numbers that are words, and what stands behind the first element.
use Rattle.std.proofs.Common.{◌≡◌, ◌<◌, ◌^◌, ℕ, zero, suc, List, [], ◌∷◌, length, get_or, slice_get, Some, Option, subst}
use Rattle.std.proofs.Common.{arith, Bool, false, ap, take, drop, ◌-◌, ◌≤◌}
use Rattle.std.specs.List.{find}
use Rattle.std.proofs.lemmas.List.{take_all}

-- some number is one number
some-is : (a b : ℕ) → ◌≡◌ {A = Option ℕ} (Some a) (Some b) → a ≡ b
some-is a b e = cc

-- what stands in a list of words is a word
pub words_below : (xs : List ℕ) → ((k : ℕ) → get_or xs k 0 < 2 ^ 32) → (k w : ℕ) → slice_get xs k ≡ Some w → w < 2 ^ 32
words_below [] h k w e = absurd (cc)
words_below (x ∷ xs) h zero w e = subst (λ n. n < 2 ^ 32) (some-is x w e) (h 0)
words_below (x ∷ xs) h (suc k) w e = words_below xs (λ j. h (suc j)) k w e

-- what doesn't stand first is found behind the first
pub find-behind : {X : Type 0} (p : X → Bool) (xs : List X) (d : X) → 1 ≤ length xs → p (get_or xs 0 d) ≡ false
    → find p (take (length xs - 1) (drop 1 xs)) ≡ find p xs
find-behind p [] d some miss = absurd (omega (arith, some))
find-behind p (x ∷ xs) d some miss = rw miss (ap (find p) (take_all (length (x ∷ xs) - 1) xs (omega arith)))
