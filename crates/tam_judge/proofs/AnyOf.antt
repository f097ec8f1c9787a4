-- Tests of some element and of all elements of a list, from its other end and number by number.
use Rattle.std.proofs.Common.{◌≡◌, ◌∙◌, ℕ, suc, Bool, true, false, ◌||◌, List, [], ◌∷◌, ◌++◌, reverse, refl, ap, sym}
use Rattle.std.proofs.lemmas.List.{reverse-append}
use Rattle.tam_word.specs.Lists.{below, any_of, all_of}

-- some element of two lists
any_of-append : {X : Type 0} (test : X → Bool) (xs ys : List X) → any_of test (xs ++ ys) ≡ (any_of test xs || any_of test ys)
any_of-append test [] ys = refl
any_of-append {X} test (x ∷ xs) ys = go (test x) refl (any_of-append test xs ys)
  where
    go : (t : Bool) → test x ≡ t → any_of test (xs ++ ys) ≡ (any_of test xs || any_of test ys)
        → any_of test (x ∷ xs ++ ys) ≡ (any_of test (x ∷ xs) || any_of test ys)
    go true e i = rw (any_of, e) refl
    go false e i = rw (any_of, e) i

-- either, in the other order
or-comm : (s t : Bool) → (s || t) ≡ (t || s)
or-comm true true = refl
or-comm true false = refl
or-comm false true = refl
or-comm false false = refl

-- some element of a list, by its first
any_of-first : {X : Type 0} (test : X → Bool) (x : X) (xs : List X) → any_of test (x ∷ xs) ≡ (any_of test (x ∷ []) || any_of test xs)
any_of-first test x xs = any_of-append test (x ∷ []) xs

-- some element of a list from its other end
pub any_of-reverse : {X : Type 0} (test : X → Bool) (xs : List X) → any_of test (reverse xs) ≡ any_of test xs
any_of-reverse test [] = refl
any_of-reverse test (x ∷ xs) =
    ap (any_of test) (reverse-append (x ∷ []) xs) ∙ any_of-append test (reverse xs) (x ∷ [])
    ∙ ap (λ t. t || any_of test (x ∷ [])) (any_of-reverse test xs) ∙ or-comm (any_of test xs) (any_of test (x ∷ [])) ∙ sym (any_of-first test x xs)

-- all elements of two lists
pub all_of-last : (test : ℕ → Bool) (xs : List ℕ) (y : ℕ) → all_of test xs ≡ true → test y ≡ true → all_of test (xs ++ y ∷ []) ≡ true
all_of-last test [] y h passes = rw (all_of, passes) refl
all_of-last test (x ∷ xs) y h passes = go (test x) refl (all_of-last test xs y)
  where
    go : (t : Bool) → test x ≡ t → (all_of test xs ≡ true → test y ≡ true → all_of test (xs ++ y ∷ []) ≡ true) → all_of test (x ∷ xs ++ y ∷ []) ≡ true
    go true e i = rw (all_of, e) (i (rw (all_of, e) at h) passes)
    go false e i = let no : false ≡ true = rw (all_of, e) at h in cc

-- one number more passes
pub all-next : (test : ℕ → Bool) (n : ℕ) → all_of test (below n) ≡ true → test n ≡ true → all_of test (below (suc n)) ≡ true
all-next test n h passes = all_of-last test (below n) n h passes

-- a test that is asked for where another holds: it fails where the other holds and it doesn't
pub asked-fails : (s t : Bool) → s ≡ true → t ≡ false → elim s [ true ↦ t | false ↦ true ] ≡ false
asked-fails s t p q = rw (p, q) refl

-- it passes where it does
pub asked-passes : (s t : Bool) → t ≡ true → elim s [ true ↦ t | false ↦ true ] ≡ true
asked-passes true t q = q
asked-passes false t q = refl

-- and where the other doesn't hold
pub not-asked : (s t : Bool) → s ≡ false → elim s [ true ↦ t | false ↦ true ] ≡ true
not-asked s t p = rw p refl
