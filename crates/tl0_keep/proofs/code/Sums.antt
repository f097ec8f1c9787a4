-- Sums over lists: of different elements of a list, of lists together.
use Rattle.std.proofs.Common.{◌≡◌, ℕ, ◌≤◌, List, [], ◌∷◌, ◌++◌, flat_map, length, refl, sym, ap, subst, arith}
use Rattle.std.proofs.Common.{inl, inr, ◌⊎◌}
use Rattle.std.specs.List.{sum_by}
use Rattle.std.proofs.lemmas.List.{length-append}
use Rattle.std.proofs.lemmas.List.Sums.{sum_by-cons, sum_by-append}
use Rattle.tam_word.proofs.Members.{In, Distinct, in-append, left-in, right-in}

-- ---- sums

-- an element of a list, and what is before and behind it
record Around {X : Type 0} (xs : List X) (x : X) : Type 0 where
  before : List X
  behind : List X
  all : xs ≡ before ++ x ∷ behind

-- each element has such neighbours
around : {X : Type 0} (xs : List X) (x : X) → In x xs → Around xs x
around [] x m = absurd m
around (y ∷ xs) x (inl e) = record { before = []; behind = xs; all = ap (λ z. z ∷ xs) e }
around (y ∷ xs) x (inr m) = let r = around xs x m in record { before = y ∷ r.before; behind = r.behind; all = ap (λ l. y ∷ l) r.all }

-- different elements of a list have no greater sum than the list
pub sum-among : (f : ℕ → ℕ) (xs ys : List ℕ) → Distinct xs → ((x : ℕ) → In x xs → In x ys) → sum_by f xs ≤ sum_by f ys
sum-among f [] ys d h = omega arith
sum-among f (x ∷ xs) ys d h =
    let r = around ys x (h x (inl refl)) in
    let i = sum-among f xs (r.before ++ r.behind) d.1 (λ y m. rest r y m (subst (In y) r.all (h y (inr m)))) in
    let a = sum_by-cons f x xs in
    let b = sum_by-append f r.before (x ∷ r.behind) in
    let c = sum_by-cons f x r.behind in
    let e = sum_by-append f r.before r.behind in
    let s : sum_by f ys ≡ sum_by f (r.before ++ x ∷ r.behind) = ap (sum_by f) r.all in
    omega (arith, i, a, b, c, e, s)
  where
    rest : (r : Around ys x) → (y : ℕ) → In y xs → In y (r.before ++ x ∷ r.behind) → In y (r.before ++ r.behind)
    rest r y m k = go (in-append y r.before (x ∷ r.behind) k)
      where
        go : In y r.before ⊎ In y (x ∷ r.behind) → In y (r.before ++ r.behind)
        go (inl a) = left-in y r.before r.behind a
        go (inr (inl e)) = absurd (d.0 (subst (λ z. In z xs) (sym e) m))
        go (inr (inr a)) = right-in y r.before r.behind a

-- where each is no greater, the sum isn't
pub sum-least : {X : Type 0} (f h : X → ℕ) (xs : List X) → ((x : X) → In x xs → f x ≤ h x) → sum_by f xs ≤ sum_by h xs
sum-least f h [] k = omega arith
sum-least f h (x ∷ xs) k =
    let i = sum-least f h xs (λ y m. k y (inr m)) in
    let o = k x (inl refl) in
    let a = sum_by-cons f x xs in
    let b = sum_by-cons h x xs in
    omega (arith, i, o, a, b)

-- the sum over lists together
pub sum-flat : {X Y : Type 0} (f : Y → ℕ) (h : X → List Y) (xs : List X) → sum_by f (flat_map h xs) ≡ sum_by (λ x. sum_by f (h x)) xs
sum-flat f h [] = refl
sum-flat f h (x ∷ xs) =
    let i = sum-flat f h xs in
    let a = sum_by-append f (h x) (flat_map h xs) in
    let b = sum_by-cons (λ y. sum_by f (h y)) x xs in
    omega (arith, i, a, b)

-- the length of lists together
pub length-flat_sum : {X Y : Type 0} (h : X → List Y) (xs : List X) → length (flat_map h xs) ≡ sum_by (λ x. length (h x)) xs
length-flat_sum h [] = refl
length-flat_sum h (x ∷ xs) =
    let i = length-flat_sum h xs in
    let a = length-append (h x) (flat_map h xs) in
    let b = sum_by-cons (λ y. length (h y)) x xs in
    omega (arith, i, a, b)

-- ---- as many as

-- where each of a list of different elements has one of another list that no other has, the list isn't longer
pub few-by : {X Y : Type 0} (R : X → Y → Type 0) (xs : List X) (ys : List Y) → Distinct xs → ((x : X) → In x xs → (y : Y) × In y ys × R x y)
    → ((x z : X) (y : Y) → R x y → R z y → x ≡ z) → length xs ≤ length ys
few-by R [] ys d h one = omega arith
few-by {X} {Y} R (x ∷ xs) ys d h one =
    let r = h x (inl refl) in
    let s = around ys r.0 r.1 in
    let i = few-by R xs (s.before ++ s.behind) d.1 (λ z m. let q = h z (inr m) in (q.0, rest r.0 s r.2 z m q.0 q.1 q.2, q.2)) one in
    let a = length-append s.before (r.0 ∷ s.behind) in
    let b = length-append s.before s.behind in
    let e : length ys ≡ length (s.before ++ r.0 ∷ s.behind) = ap (λ l. length l) s.all in
    omega (arith, i, a, b, e)
  where
    rest : (y : Y) → (s : Around ys y) → R x y → (z : X) → In z xs → (w : Y) → In w ys → R z w → In w (s.before ++ s.behind)
    rest y s o z m w k q = go (in-append w s.before (y ∷ s.behind) (subst (In w) s.all k))
      where
        go : In w s.before ⊎ In w (y ∷ s.behind) → In w (s.before ++ s.behind)
        go (inl a) = left-in w s.before s.behind a
        go (inr (inl e)) = absurd (d.0 (subst (λ u. In u xs) (sym (one x z w (subst (R x) e o) q)) m))
        go (inr (inr a)) = right-in w s.before s.behind a
