-- The test of bytes: one test is the other, and what passes is equal.
use Rattle.std.proofs.Common.{◌≡◌, ℕ, Bool, true, false, eqb, ◌==◌, ◌&&◌, List, [], ◌∷◌, refl, sym, ap, ap₂, ◌∙◌, true≢false}
use Rattle.std.specs.Str.{bytes_eq}
use Rattle.tam_word.specs.Lists.{same_bytes, same_list}
use Rattle.tam_word.proofs.Tests.{number-eq, self-eq}

-- a test and a further one
test_then : (t u : Bool) → (elim t [ true ↦ u | false ↦ false ]) ≡ (t && u)
test_then true u = refl
test_then false u = refl

-- one test of bytes is the other
pub same_bytes_is : (xs ys : List ℕ) → same_bytes xs ys ≡ bytes_eq xs ys
same_bytes_is [] [] = refl
same_bytes_is [] (y ∷ ys) = refl
same_bytes_is (x ∷ xs) [] = refl
same_bytes_is (x ∷ xs) (y ∷ ys) =
    ap (λ u. elim (eqb x y) [ true ↦ u | false ↦ false ]) (same_bytes_is xs ys) ∙ test_then (eqb x y) (bytes_eq xs ys)

-- bytes that pass are equal
pub same_equal : (xs ys : List ℕ) → same_bytes xs ys ≡ true → xs ≡ ys
same_equal [] [] h = refl
same_equal [] (y ∷ ys) h = absurd (true≢false (sym h))
same_equal (x ∷ xs) [] h = absurd (true≢false (sym h))
same_equal (x ∷ xs) (y ∷ ys) h = go (x == y) refl (same_equal xs ys)
  where
    go : (t : Bool) → (x == y) ≡ t → (same_bytes xs ys ≡ true → xs ≡ ys) → x ∷ xs ≡ y ∷ ys
    go true p i = ap₂ (λ a rest. a ∷ rest) (number-eq x y p) (i (rw (same_list, p) at h))
    go false p i = absurd (true≢false (sym (rw (same_list, p) at h)))

-- bytes pass with themselves
pub same_self : (xs : List ℕ) → same_bytes xs xs ≡ true
same_self [] = refl
same_self (x ∷ xs) = rw (same_list, self-eq x) (same_self xs)
