-- Tests of the numbers below n, one by one; and of lists, by tests that say the same or over what is left of them.
use Rattle.std.proofs.Common.{◌≡◌, ℕ, ◌+◌, ◌<◌, Bool, true, false, not, ◌&&◌, ◌||◌, List, [], ◌∷◌, ◌++◌, filter, refl, sym, ap, ◌∙◌, arith, inl, inr}
use Rattle.std.proofs.Common.{true≢false}
use Rattle.tam_word.specs.Lists.{below, any_of, all_of}
use Rattle.tam_word.proofs.Members.{In, in-below, below-in, in-any, any-in, all-in, in-all}
use Rattle.tam_word.proofs.Each.{last-or_before}

-- one more number that fails
pub any-next : (test : ℕ → Bool) (n : ℕ) → any_of test (below n) ≡ false → test n ≡ false → any_of test (below (n + 1)) ≡ false
any-next test n before here = go (any_of test (below (n + 1))) refl
  where
    fails : (x : ℕ) → In x (below (n + 1)) → test x ≡ true → ⊥
    fails x m t = elim (last-or_before x n (let l : x < n + 1 = in-below x (n + 1) m in omega arith)) [
      | inl l ↦ true≢false (sym (in-any test (below n) x (below-in x n l) t) ∙ before)
      | inr e ↦ true≢false (sym t ∙ (ap test e ∙ here))
    ]

    go : (b : Bool) → any_of test (below (n + 1)) ≡ b → any_of test (below (n + 1)) ≡ false
    go false e = e
    go true e = let r = any-in test (below (n + 1)) e in absurd (fails r.0 r.1 r.2)

-- a number that passes
pub any-found : (test : ℕ → Bool) (n x : ℕ) → x < n → test x ≡ true → any_of test (below n) ≡ true
any-found test n x l t = in-any test (below n) x (below-in x n l) t

-- one more number that passes
pub all-next : (test : ℕ → Bool) (n : ℕ) → all_of test (below n) ≡ true → test n ≡ true → all_of test (below (n + 1)) ≡ true
all-next test n before here = in-all test (below (n + 1)) passes
  where
    passes : (x : ℕ) → In x (below (n + 1)) → test x ≡ true
    passes x m = elim (last-or_before x n (let l : x < n + 1 = in-below x (n + 1) m in omega arith)) [
      | inl l ↦ all-in test (below n) before x (below-in x n l)
      | inr e ↦ ap test e ∙ here
    ]

-- a number that fails
pub all-failed : (test : ℕ → Bool) (n x : ℕ) → x < n → test x ≡ false → all_of test (below n) ≡ false
all-failed test n x l t = go (all_of test (below n)) refl
  where
    go : (b : Bool) → all_of test (below n) ≡ b → all_of test (below n) ≡ false
    go false e = e
    go true e = absurd (true≢false (sym (all-in test (below n) e x (below-in x n l)) ∙ t))

-- ---- by the first element

-- the first passes
any-here : {X : Type 0} (test : X → Bool) (x : X) (xs : List X) → test x ≡ true → any_of test (x ∷ xs) ≡ true
any-here test x xs e = rw (any_of, e) refl

-- the first fails
any-later : {X : Type 0} (test : X → Bool) (x : X) (xs : List X) → test x ≡ false → any_of test (x ∷ xs) ≡ any_of test xs
any-later test x xs e = rw (any_of, e) refl

-- the first passes
all-later : {X : Type 0} (test : X → Bool) (x : X) (xs : List X) → test x ≡ true → all_of test (x ∷ xs) ≡ all_of test xs
all-later test x xs e = rw (all_of, e) refl

-- the first fails
all-here : {X : Type 0} (test : X → Bool) (x : X) (xs : List X) → test x ≡ false → all_of test (x ∷ xs) ≡ false
all-here test x xs e = rw (all_of, e) refl

-- some element of one
pub any-of_one : {X : Type 0} (test : X → Bool) (x : X) → any_of test (x ∷ []) ≡ test x
any-of_one test x = go (test x) refl
  where
    go : (b : Bool) → test x ≡ b → any_of test (x ∷ []) ≡ test x
    go true e = any-here test x [] e ∙ sym e
    go false e = any-later test x [] e ∙ sym e

-- each element of one
pub all-of_one : {X : Type 0} (test : X → Bool) (x : X) → all_of test (x ∷ []) ≡ test x
all-of_one test x = go (test x) refl
  where
    go : (b : Bool) → test x ≡ b → all_of test (x ∷ []) ≡ test x
    go true e = all-later test x [] e ∙ sym e
    go false e = all-here test x [] e ∙ sym e

-- some element of both lists
pub any-append : {X : Type 0} (test : X → Bool) (xs ys : List X) → any_of test (xs ++ ys) ≡ (any_of test xs || any_of test ys)
any-append test [] ys = refl
any-append {X} test (x ∷ xs) ys = go (test x) refl (any-append test xs ys)
  where
    go : (b : Bool) → test x ≡ b → any_of test (xs ++ ys) ≡ (any_of test xs || any_of test ys)
        → any_of test ((x ∷ xs) ++ ys) ≡ (any_of test (x ∷ xs) || any_of test ys)
    go true e i = any-here test x (xs ++ ys) e ∙ ap (λ t. t || any_of test ys) (sym (any-here test x xs e))
    go false e i = any-later test x (xs ++ ys) e ∙ (i ∙ ap (λ t. t || any_of test ys) (sym (any-later test x xs e)))

-- each element of both lists
pub all-append_test : {X : Type 0} (test : X → Bool) (xs ys : List X) → all_of test (xs ++ ys) ≡ (all_of test xs && all_of test ys)
all-append_test test [] ys = refl
all-append_test {X} test (x ∷ xs) ys = go (test x) refl (all-append_test test xs ys)
  where
    go : (b : Bool) → test x ≡ b → all_of test (xs ++ ys) ≡ (all_of test xs && all_of test ys)
        → all_of test ((x ∷ xs) ++ ys) ≡ (all_of test (x ∷ xs) && all_of test ys)
    go true e i = all-later test x (xs ++ ys) e ∙ (i ∙ ap (λ t. t && all_of test ys) (sym (all-later test x xs e)))
    go false e i = all-here test x (xs ++ ys) e ∙ ap (λ t. t && all_of test ys) (sym (all-here test x xs e))

-- ---- tests that say the same

-- some element passes the one where some passes the other
pub any-same : {X : Type 0} (s t : X → Bool) (xs : List X) → ((x : X) → s x ≡ t x) → any_of s xs ≡ any_of t xs
any-same s t [] f = refl
any-same {X} s t (x ∷ xs) f = go (t x) refl (any-same s t xs f)
  where
    go : (b : Bool) → t x ≡ b → any_of s xs ≡ any_of t xs → any_of s (x ∷ xs) ≡ any_of t (x ∷ xs)
    go true e i = any-here s x xs (f x ∙ e) ∙ sym (any-here t x xs e)
    go false e i = any-later s x xs (f x ∙ e) ∙ (i ∙ sym (any-later t x xs e))

-- and so for each element
pub all-same : {X : Type 0} (s t : X → Bool) (xs : List X) → ((x : X) → s x ≡ t x) → all_of s xs ≡ all_of t xs
all-same s t [] f = refl
all-same {X} s t (x ∷ xs) f = go (t x) refl (all-same s t xs f)
  where
    go : (b : Bool) → t x ≡ b → all_of s xs ≡ all_of t xs → all_of s (x ∷ xs) ≡ all_of t (x ∷ xs)
    go true e i = all-later s x xs (f x ∙ e) ∙ (i ∙ sym (all-later t x xs e))
    go false e i = all-here s x xs (f x ∙ e) ∙ sym (all-here t x xs e)

-- ---- over what is left of a list

-- some element that is left passes
pub any-filter : {X : Type 0} (kept test : X → Bool) (xs : List X) → any_of test (filter kept xs) ≡ any_of (λ x. kept x && test x) xs
any-filter kept test [] = refl
any-filter {X} kept test (x ∷ xs) = go (kept x) refl (test x) refl (any-filter kept test xs)
  where
    go : (b : Bool) → kept x ≡ b → (t : Bool) → test x ≡ t → any_of test (filter kept xs) ≡ any_of (λ y. kept y && test y) xs
        → any_of test (filter kept (x ∷ xs)) ≡ any_of (λ y. kept y && test y) (x ∷ xs)
    go true e true h i = rw e (any-here test x (filter kept xs) h ∙ sym (any-here (λ y. kept y && test y) x xs (rw (e, h) refl)))
    go true e false h i = rw e (any-later test x (filter kept xs) h ∙ (i ∙ sym (any-later (λ y. kept y && test y) x xs (rw (e, h) refl))))
    go false e t h i = rw e (i ∙ sym (any-later (λ y. kept y && test y) x xs (rw e refl)))

-- each element that is left passes
pub all-filter : {X : Type 0} (kept test : X → Bool) (xs : List X) → all_of test (filter kept xs) ≡ all_of (λ x. not (kept x) || test x) xs
all-filter kept test [] = refl
all-filter {X} kept test (x ∷ xs) = go (kept x) refl (test x) refl (all-filter kept test xs)
  where
    go : (b : Bool) → kept x ≡ b → (t : Bool) → test x ≡ t → all_of test (filter kept xs) ≡ all_of (λ y. not (kept y) || test y) xs
        → all_of test (filter kept (x ∷ xs)) ≡ all_of (λ y. not (kept y) || test y) (x ∷ xs)
    go true e true h i = rw e (all-later test x (filter kept xs) h ∙ (i ∙ sym (all-later (λ y. not (kept y) || test y) x xs (rw (e, h) refl))))
    go true e false h i = rw e (all-here test x (filter kept xs) h ∙ sym (all-here (λ y. not (kept y) || test y) x xs (rw (e, h) refl)))
    go false e t h i = rw e (i ∙ sym (all-later (λ y. not (kept y) || test y) x xs (rw e refl)))

-- what is left of what is left
pub filter-filter : {X : Type 0} (outer inner : X → Bool) (xs : List X) → filter outer (filter inner xs) ≡ filter (λ x. inner x && outer x) xs
filter-filter outer inner [] = refl
filter-filter {X} outer inner (x ∷ xs) = go (inner x) refl (outer x) refl (filter-filter outer inner xs)
  where
    go : (b : Bool) → inner x ≡ b → (t : Bool) → outer x ≡ t → filter outer (filter inner xs) ≡ filter (λ y. inner y && outer y) xs
        → filter outer (filter inner (x ∷ xs)) ≡ filter (λ y. inner y && outer y) (x ∷ xs)
    go true e true h i = rw (e, h) (ap (λ ys. x ∷ ys) i)
    go true e false h i = rw (e, h) i
    go false e t h i = rw e i
