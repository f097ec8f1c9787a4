-- Lists sifted by a test, and lists gathered from the numbers below n.
use Rattle.std.proofs.Common.{◌+◌, ◌≤◌, length, add-one, ◌≡◌, ◌≢◌, ℕ, zero, suc, ◌<◌, Bool, true, false, ◌&&◌, ◌==◌, List, [], ◌∷◌, ◌++◌, filter, flat_map}
use Rattle.std.proofs.Common.{refl, sym, ap, ◌∙◌, arith}
use Rattle.std.proofs.lemmas.Grind.{flat_map-append}
use Rattle.std.proofs.lemmas.List.{append-nil}
use Rattle.tam_word.specs.Lists.{below, first_of, where_so}
use Rattle.tam_word.proofs.Tests.{number-eq, number-differs}

-- tests that agree sift alike
pub filter-alike : {X : Type 0} (p q : X → Bool) → ((x : X) → p x ≡ q x) → (xs : List X) → filter p xs ≡ filter q xs
filter-alike p q h [] = refl
filter-alike p q h (x ∷ xs) = rw (h x, filter-alike p q h xs) refl

-- sifted twice is sifted by both tests
pub filter-twice : {X : Type 0} (p q : X → Bool) (xs : List X) → filter q (filter p xs) ≡ filter (λ x. p x && q x) xs
filter-twice p q [] = refl
filter-twice p q (x ∷ xs) = go (p x) refl (filter-twice p q xs)
  where
    go : (b : Bool) → p x ≡ b → filter q (filter p xs) ≡ filter (λ y. p y && q y) xs
        → filter q (filter p (x ∷ xs)) ≡ filter (λ y. p y && q y) (x ∷ xs)
    go true e i = rw (e, i) refl
    go false e i = rw (e, i) refl

-- where none passes, none is left
pub filter-none : {X : Type 0} (p : X → Bool) → ((x : X) → p x ≡ false) → (xs : List X) → filter p xs ≡ []
filter-none p h [] = refl
filter-none p h (x ∷ xs) = rw (h x, filter-none p h xs) refl

-- a list with one more at its end, sifted
pub filter-more : {X : Type 0} (p : X → Bool) (xs : List X) (x : X) → filter p (xs ++ x ∷ []) ≡ filter p xs ++ where_so (p x) x
filter-more p [] x = go (p x) refl
  where
    go : (b : Bool) → p x ≡ b → filter p (x ∷ []) ≡ where_so (p x) x
    go true e = rw (e, where_so) refl
    go false e = rw (e, where_so) refl
filter-more p (y ∷ ys) x = go (p y) refl (filter-more p ys x)
  where
    go : (b : Bool) → p y ≡ b → filter p (ys ++ x ∷ []) ≡ filter p ys ++ where_so (p x) x
        → filter p (y ∷ (ys ++ x ∷ [])) ≡ filter p (y ∷ ys) ++ where_so (p x) x
    go true e i = rw (e, i) refl
    go false e i = rw (e, i) refl

-- the numbers below n + 1, sifted
pub filter-below_more : (p : ℕ → Bool) (n : ℕ) → filter p (below (n + 1)) ≡ filter p (below n) ++ where_so (p n) n
filter-below_more p n = rw (add-one n) (filter-more p (below n) n)

-- the first that passes is one at most
pub first_of-one : {X : Type 0} (test : X → Bool) (xs : List X) → length (first_of test xs) ≤ 1
first_of-one test [] = omega arith
first_of-one test (x ∷ xs) = go (test x) refl (first_of-one test xs)
  where
    go : (b : Bool) → test x ≡ b → length (first_of test xs) ≤ 1 → length (first_of test (x ∷ xs)) ≤ 1
    go true e i = rw (first_of, e) (omega arith)
    go false e i = rw (first_of, e) i

-- where no number below n has a list, all together have none
pub flat_map-below_none : {X : Type 0} (f : ℕ → List X) (n : ℕ) → ((j : ℕ) → j < n → f j ≡ []) → flat_map f (below n) ≡ []
flat_map-below_none f zero h = refl
flat_map-below_none f (suc n) h =
    rw (flat_map-append f (below n) (n ∷ []), flat_map-below_none f n (λ j l. h j (omega arith)), h n (omega arith)) refl

-- where one number below n has a list, all together have that list
pub flat_map-below_one : {X : Type 0} (f : ℕ → List X) (n i : ℕ) → i < n → ((j : ℕ) → i ≢ j → f j ≡ []) → flat_map f (below n) ≡ f i
flat_map-below_one f zero i l h = absurd (omega arith)
flat_map-below_one {X} f (suc n) i l h = flat_map-append f (below n) (n ∷ []) ∙ go (i == n) refl (flat_map-below_one f n i)
  where
    go : (b : Bool) → (i == n) ≡ b → (i < n → ((j : ℕ) → i ≢ j → f j ≡ []) → flat_map f (below n) ≡ f i) → flat_map f (below n) ++ (f n ++ []) ≡ f i
    go true e ih =
        let same : i ≡ n = number-eq i n e in
        rw (flat_map-below_none f n (λ j k. h j (omega arith)), append-nil (f n)) (ap f (sym same))
    go false e ih =
        let differ : i ≢ n = number-differs i n e in
        let less : i < n = omega arith in
        rw (h n differ, append-nil (flat_map f (below n))) (ih less h)
