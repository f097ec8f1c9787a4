-- Lists made of the numbers below n.
use Rattle.std.proofs.Common.{◌≡◌, ◌∙◌, ℕ, zero, suc, ◌<◌, ◌≤◌, ◌==◌, Bool, true, false, List, [], ◌∷◌, ◌++◌, refl, sym, ap, subst, arith, length}
use Rattle.std.proofs.Common.{map, Some, inl, inr}
use Rattle.std.proofs.Common.{slice_get}
use Rattle.std.proofs.Common.{flat_map}
use Rattle.std.proofs.lemmas.Option.{slice_get-map}
use Rattle.std.specs.Prelude.{option_map}
use Rattle.tam_word.specs.Lists.{below, any_of, all_of, all_differ, has}
use Rattle.tam_word.proofs.Tests.{number-eq, number-differs}
use Rattle.tam_word.proofs.Members.{In, in-all, all-in, has-in}

-- one more element
length-last : {X : Type 0} (xs : List X) (y : X) → length (xs ++ y ∷ []) ≡ suc (length xs)
length-last [] y = refl
length-last (x ∷ xs) y = ap suc (length-last xs y)

-- the numbers below n are n
length-below : (n : ℕ) → length (below n) ≡ n
length-below zero = refl
length-below (suc n) = length-last (below n) n ∙ ap suc (length-below n)

-- what they become too
length-all : {X Y : Type 0} (f : X → Y) (xs : List X) → length (map f xs) ≡ length xs
length-all f [] = refl
length-all f (x ∷ xs) = ap suc (length-all f xs)

pub length-numbered : {X : Type 0} (f : ℕ → X) (n : ℕ) → length (map f (below n)) ≡ n
length-numbered f n = length-all f (below n) ∙ length-below n

-- an element stays before others
get-early : {X : Type 0} (xs ys : List X) (i : ℕ) (x : X) → slice_get xs i ≡ Some x → slice_get (xs ++ ys) i ≡ Some x
get-early [] ys i x h = absurd cc
get-early (y ∷ xs) ys zero x h = h
get-early (y ∷ xs) ys (suc i) x h = get-early xs ys i x h

-- the last one
get-last : {X : Type 0} (xs : List X) (y : X) → slice_get (xs ++ y ∷ []) (length xs) ≡ Some y
get-last [] y = refl
get-last (x ∷ xs) y = get-last xs y

-- a number stands at its own place
get-below : (n i : ℕ) → i < n → slice_get (below n) i ≡ Some i
get-below zero i l = absurd (omega arith)
get-below (suc n) i l = go (i == n) refl (get-below n i)
  where
    go : (t : Bool) → (i == n) ≡ t → (i < n → slice_get (below n) i ≡ Some i) → slice_get (below n ++ n ∷ []) i ≡ Some i
    go true e f =
        subst (λ j. slice_get (below n ++ n ∷ []) j ≡ Some j) (sym (number-eq i n e))
        (subst (λ j. slice_get (below n ++ n ∷ []) j ≡ Some n) (length-below n) (get-last (below n) n))
    go false e f = let d = number-differs i n e in get-early (below n) (n ∷ []) i i (f (omega (arith, d)))

-- and what it becomes too
pub get-numbered : {X : Type 0} (f : ℕ → X) (n i : ℕ) → i < n → slice_get (map f (below n)) i ≡ Some (f i)
get-numbered f n i l = slice_get-map f (below n) i ∙ ap (option_map f) (get-below n i l)

-- ---- tests of all

-- where the special ones pass, and all others do, all pass
pub all-but : (test : ℕ → Bool) (special xs : List ℕ) → all_of test special ≡ true
    → all_of (λ x. elim (has special x) [ true ↦ true | false ↦ test x ]) xs ≡ true → all_of test xs ≡ true
all-but test special xs h k = in-all test xs (λ x m. go x m (has special x) refl)
  where
    go : (x : ℕ) → In x xs → (t : Bool) → has special x ≡ t → test x ≡ true
    go x m true e = all-in test special h x (has-in special x e)
    go x m false e = rw e at (all-in (λ (x : ℕ). elim (has special x) [ true ↦ true | false ↦ test x ]) xs k x m)

-- ---- fewer numbers

-- where elements of a longer list differ, those of a shorter one do
some-differ : {X : Type 0} (same : X → X → Bool) (xs ys : List X) → all_differ same (xs ++ ys) ≡ true → all_differ same xs ≡ true
some-differ same [] ys h = refl
some-differ {X} same (x ∷ xs) ys h = go (any_of (same x) (xs ++ ys)) refl (any_of (same x) xs) refl (some-differ same xs ys)
  where
    longer : (zs : List X) → any_of (same x) zs ≡ true → any_of (same x) (zs ++ ys) ≡ true
    longer [] a = absurd cc
    longer (z ∷ zs) a = at (same x z) refl (longer zs)
      where
        at : (t : Bool) → same x z ≡ t → (any_of (same x) zs ≡ true → any_of (same x) (zs ++ ys) ≡ true) → any_of (same x) (z ∷ (zs ++ ys)) ≡ true
        at true e f = rw (any_of, e) refl
        at false e f = rw (any_of, e) (f (rw (any_of, e) at a))

    go : (a : Bool) → any_of (same x) (xs ++ ys) ≡ a → (b : Bool) → any_of (same x) xs ≡ b
        → (all_differ same (xs ++ ys) ≡ true → all_differ same xs ≡ true) → all_differ same (x ∷ xs) ≡ true
    go true e b f i = absurd (let z : false ≡ true = rw (all_differ, e) at h in cc)
    go false e true f i = absurd (let z = longer xs f in cc)
    go false e false f i = rw (all_differ, f) (i (rw (all_differ, e) at h))

-- maps of joined lists
map-append : {X Y : Type 0} (f : X → Y) (xs ys : List X) → map f (xs ++ ys) ≡ map f xs ++ map f ys
map-append f [] ys = refl
map-append f (x ∷ xs) ys = ap (λ l. f x ∷ l) (map-append f xs ys)

-- where what the numbers below m become differs, what those below n become does
pub fewer-differ : {X : Type 0} (same : X → X → Bool) (first : X) (f : ℕ → X) (n m : ℕ) → n ≤ m
    → all_differ same (first ∷ map f (below m)) ≡ true → all_differ same (first ∷ map f (below n)) ≡ true
fewer-differ same first f n zero l h = let e : 0 ≡ n = omega arith in subst (λ k. all_differ same (first ∷ map f (below k)) ≡ true) e h
fewer-differ same first f n (suc m) l h = go (n == suc m) refl (fewer-differ same first f n m)
  where
    go : (t : Bool) → (n == suc m) ≡ t
        → (n ≤ m → all_differ same (first ∷ map f (below m)) ≡ true → all_differ same (first ∷ map f (below n)) ≡ true)
        → all_differ same (first ∷ map f (below n)) ≡ true
    go true e i = subst (λ k. all_differ same (first ∷ map f (below k)) ≡ true) (sym (number-eq n (suc m) e)) h
    go false e i =
        let d = number-differs n (suc m) e in
        let joined : all_differ same ((first ∷ map f (below m)) ++ map f (m ∷ [])) ≡ true
        = subst (λ l. all_differ same (first ∷ l) ≡ true) (map-append f (below m) (m ∷ [])) h in
        i (omega (arith, d)) (some-differ same (first ∷ map f (below m)) (map f (m ∷ [])) joined)

-- ---- texts

-- functions that agree on a list make the same of it
pub flat_map-alike : {X Y : Type 0} (f h : X → List Y) (xs : List X) → ((x : X) → In x xs → f x ≡ h x) → flat_map f xs ≡ flat_map h xs
flat_map-alike f h [] e = refl
flat_map-alike f h (x ∷ xs) e =
    ap (λ l. l ++ flat_map f xs) (e x (inl refl)) ∙ ap (λ l. h x ++ l) (flat_map-alike f h xs (λ y m. e y (inr m)))
