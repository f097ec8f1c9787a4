-- Rising lists of numbers: two of them merged rise again, and are what a sort makes of them.
use Rattle.std.proofs.Common.{◌≡◌, ℕ, suc, ◌+◌, ◌<◌, ◌≤◌, Bool, true, false, cond, ◌==◌, nat_lt, List, [], ◌∷◌, ◌++◌, refl, sym, ap}
use Rattle.std.proofs.Common.{subst, ◌∙◌, inl, inr, ◌⊎◌}
use Rattle.std.proofs.Common.{arith, length, sum_by, get_or}
use Rattle.std.specs.List.Sorted.{IsPermutation, IsNonDecreasingBy}
use Rattle.std.proofs.lemmas.List.Sorted.{sum_by-IsPermutation}
use Rattle.std.proofs.lemmas.List.Sums.{sum_by-cons, sum_by-append}
use Rattle.tam_word.specs.Lists.{all_of, insert_rising, merge_rising}
use Rattle.tam_word.proofs.Tests.{both-true, true-both, below-test, test-below, number-eq, eq-number}
use Rattle.tam_word.proofs.Members.{In, all-in, in-all, in-merge}
use Rattle.tam_split.specs.KeptParts.{is_rising}

-- ---- rising lists

-- the first is below each behind it
pub head-below : (x : ℕ) (xs : List ℕ) → is_rising (x ∷ xs) ≡ true → (y : ℕ) → In y xs → x < y
head-below x xs h y i = test-below x y (all-in (nat_lt x) xs (both-true (all_of (nat_lt x) xs) (is_rising xs) h).0 y i)

-- what stands behind the first rises
pub tail-rising : (x : ℕ) (xs : List ℕ) → is_rising (x ∷ xs) ≡ true → is_rising xs ≡ true
tail-rising x xs h = (both-true (all_of (nat_lt x) xs) (is_rising xs) h).1

-- a number below each of a rising list, and that list
pub rising-cons : (x : ℕ) (xs : List ℕ) → ((y : ℕ) → In y xs → x < y) → is_rising xs ≡ true → is_rising (x ∷ xs) ≡ true
rising-cons x xs f h = true-both (all_of (nat_lt x) xs) (is_rising xs) (in-all (nat_lt x) xs (λ y i. below-test x y (f y i))) h

-- ---- merged

-- what is put into a list stands in it, or did so before
in-inserted : (x n : ℕ) (ys : List ℕ) → In x (insert_rising n ys) → (n ≡ x) ⊎ In x ys
in-inserted x n ys h = elim (in-merge x (n ∷ []) ys h) [ inl (inl e) ↦ inl e | inl (inr b) ↦ absurd b | inr i ↦ inr i ]

-- a number put into a rising list that hasn't it
insert-rising : (n : ℕ) (ys : List ℕ) → is_rising ys ≡ true → (In n ys → ⊥) → is_rising (insert_rising n ys) ≡ true
insert-rising n [] h d = refl
insert-rising n (y ∷ ys) h d = go (nat_lt n y) refl (insert-rising n ys (tail-rising y ys h) (λ i. d (inr i)))
  where
    go : (t : Bool) → nat_lt n y ≡ t → is_rising (insert_rising n ys) ≡ true → is_rising (insert_rising n (y ∷ ys)) ≡ true
    go true p i =
        let l : n < y = test-below n y p in
        rw (insert_rising, p) (rising-cons n (y ∷ ys) (λ z j. elim j [
          | inl e ↦ subst (λ w. n < w) e l
          | inr k ↦
              (let m : y < z = head-below y ys h z k in omega arith)
        ]) h)
    go false p i =
        let ne : y ≡ n → ⊥ = λ e. d (inl e) in
        let l : y < n = lower ne in
        rw (insert_rising, p)
        (rising-cons y (insert_rising n ys) (λ z j. elim (in-inserted z n ys j) [ inl e ↦ subst (λ w. y < w) e l | inr k ↦ head-below y ys h z k ]) i)
      where
        lower : (y ≡ n → ⊥) → y < n
        lower ne = grind (arith, below-test)

-- two rising lists that have no number in common
pub merge-rising : (xs ys : List ℕ) → is_rising xs ≡ true → is_rising ys ≡ true → ((z : ℕ) → In z xs → In z ys → ⊥) → is_rising (merge_rising xs ys) ≡ true
merge-rising [] ys p q d = q
merge-rising (x ∷ xs) ys p q d =
    insert-rising x (merge_rising xs ys) (merge-rising xs ys (tail-rising x xs p) q (λ z i j. d z (inr i) j))
    (λ i. elim (in-merge x xs ys i) [ inl j ↦ (let l : x < x = head-below x xs p x j in omega arith) | inr j ↦ d x (inl refl) j ])

-- the least of the first list, below all of both, stays first
pub merge-least : (x : ℕ) (xs ys : List ℕ) → is_rising (x ∷ xs) ≡ true → ((y : ℕ) → In y ys → x < y) → merge_rising (x ∷ xs) ys ≡ x ∷ merge_rising xs ys
merge-least x xs ys p d = go (merge_rising xs ys) (λ z i. elim (in-merge z xs ys i) [ inl j ↦ head-below x xs p z j | inr j ↦ d z j ])
  where
    go : (zs : List ℕ) → ((z : ℕ) → In z zs → x < z) → insert_rising x zs ≡ x ∷ zs
    go [] f = refl
    go (z ∷ zs) f = rw (insert_rising, below-test x z (f z (inl refl))) refl

-- ---- sorted

-- each number is at most those behind it
abbrev pub Ascends : List ℕ → Type 0
Ascends [] = Unit {0}
Ascends (x ∷ xs) = ((y : ℕ) → In y xs → x ≤ y) × Ascends xs

-- 1 where the numbers are one
abbrev pub is_one : ℕ → ℕ → ℕ
is_one z x = cond (x == z) 1 0

-- how often a number stands in a list
abbrev pub times : ℕ → List ℕ → ℕ
times z xs = sum_by (is_one z) xs

-- a rising list ascends
pub rising-ascends : (xs : List ℕ) → is_rising xs ≡ true → Ascends xs
rising-ascends [] h = tt
rising-ascends (x ∷ xs) h = (λ y i. (let l : x < y = head-below x xs h y i in omega arith), rising-ascends xs (tail-rising x xs h))

-- what the index says of a list that is sorted
pub sorted-ascends : (xs : List ℕ) → IsNonDecreasingBy (λ x. x) xs → Ascends xs
sorted-ascends [] h = tt
sorted-ascends (x ∷ xs) h = (
  λ y i. low y xs i (λ k l. h 0 (suc k) 0 (omega arith) (omega arith)),
  sorted-ascends xs
      (λ i j d l m. h (suc i) (suc j) d (omega arith) (omega arith)),
)
  where
    low : (y : ℕ) (zs : List ℕ) → In y zs → ((k : ℕ) → k < length zs → x ≤ get_or zs k 0) → x ≤ y
    low y [] i f = absurd i
    low y (z ∷ zs) (inl e) f = let l : x ≤ z = f 0 (omega arith) in subst (λ w. x ≤ w) e l
    low y (z ∷ zs) (inr j) f = low y zs j (λ k l. f (suc k) (omega arith))

-- a number that stands in a list is counted
in-times : (z : ℕ) (xs : List ℕ) → In z xs → 0 < times z xs
in-times z [] i = absurd i
in-times z (x ∷ xs) (inl e) =
    let s : times z (x ∷ xs) ≡ is_one z x + times z xs = sum_by-cons (is_one z) x xs in
    let o : is_one z x ≡ 1 = rw (is_one, eq-number x z e) refl in omega arith
in-times z (x ∷ xs) (inr j) = let s : times z (x ∷ xs) ≡ is_one z x + times z xs = sum_by-cons (is_one z) x xs in let k : 0 < times z xs =
    in-times z xs j in omega arith

-- and what is counted stands in it
times-in : (z : ℕ) (xs : List ℕ) → 0 < times z xs → In z xs
times-in z [] h = absurd (omega arith)
times-in z (x ∷ xs) h = go (x == z) refl (times-in z xs)
  where
    go : (t : Bool) → (x == z) ≡ t → (0 < times z xs → In z xs) → In z (x ∷ xs)
    go true p i = inl (number-eq x z p)
    go false p i =
        let s : times z (x ∷ xs) ≡ is_one z x + times z xs = sum_by-cons (is_one z) x xs in
        let o : is_one z x ≡ 0 = rw (is_one, p) refl in inr (i (omega arith))

-- two ascending lists that have each number as often are one
pub ascends-same : (xs ys : List ℕ) → Ascends xs → Ascends ys → ((z : ℕ) → times z xs ≡ times z ys) → xs ≡ ys
ascends-same [] [] a b e = refl
ascends-same [] (y ∷ ys) a b e = absurd (times-in y [] (rw (e y) (in-times y (y ∷ ys) (inl refl))))
ascends-same (x ∷ xs) [] a b e = absurd (times-in x [] (rw (← (e x)) (in-times x (x ∷ xs) (inl refl))))
ascends-same (x ∷ xs) (y ∷ ys) a b e =
    let first : x ≡ y = heads (times-in x (y ∷ ys) (rw (← (e x)) (in-times x (x ∷ xs) (inl refl))))
    (times-in y (x ∷ xs) (rw (e y) (in-times y (y ∷ ys) (inl refl)))) in
    let rest : xs ≡ ys = ascends-same xs ys a.1 b.1 (λ z. tails z first) in
    subst (λ w. x ∷ xs ≡ w ∷ ys) first (ap (λ zs. x ∷ zs) rest)
  where
    heads : In x (y ∷ ys) → In y (x ∷ xs) → x ≡ y
    heads (inl p) q = sym p
    heads (inr p) (inl q) = q
    heads (inr p) (inr q) = let l : y ≤ x = b.0 x p in let m : x ≤ y = a.0 y q in omega arith

    tails : (z : ℕ) → x ≡ y → times z xs ≡ times z ys
    tails z p =
        let s : times z (x ∷ xs) ≡ is_one z x + times z xs = sum_by-cons (is_one z) x xs in
        let t : times z (y ∷ ys) ≡ is_one z y + times z ys = sum_by-cons (is_one z) y ys in
        let o : is_one z x ≡ is_one z y = ap (is_one z) p in
        let u : times z (x ∷ xs) ≡ times z (y ∷ ys) = e z in omega arith

-- a number put in is counted once more
times-insert : (z n : ℕ) (ys : List ℕ) → times z (insert_rising n ys) ≡ is_one z n + times z ys
times-insert z n [] = sum_by-cons (is_one z) n []
times-insert z n (y ∷ ys) = go (nat_lt n y) refl (times-insert z n ys)
  where
    go : (t : Bool) → nat_lt n y ≡ t → times z (insert_rising n ys) ≡ is_one z n + times z ys → times z (insert_rising n (y ∷ ys)) ≡ is_one z n + times z
        (y ∷ ys)
    go true p i = rw (insert_rising, p) (sum_by-cons (is_one z) n (y ∷ ys))
    go false p i =
        let s : times z (y ∷ insert_rising n ys) ≡ is_one z y + times z (insert_rising n ys) = sum_by-cons (is_one z) y (insert_rising n ys) in
        let t : times z (y ∷ ys) ≡ is_one z y + times z ys = sum_by-cons (is_one z) y ys in
        let u : times z (y ∷ insert_rising n ys) ≡ is_one z n + times z (y ∷ ys) = omega arith in rw (insert_rising, p) u

-- two lists merged are counted as both
times-merge : (z : ℕ) (xs ys : List ℕ) → times z (merge_rising xs ys) ≡ times z xs + times z ys
times-merge z [] ys = omega arith
times-merge z (x ∷ xs) ys =
    let s : times z (x ∷ xs) ≡ is_one z x + times z xs = sum_by-cons (is_one z) x xs in
    let t : times z (merge_rising (x ∷ xs) ys) ≡ is_one z x + times z (merge_rising xs ys) = times-insert z x (merge_rising xs ys) in
    let i : times z (merge_rising xs ys) ≡ times z xs + times z ys = times-merge z xs ys in omega arith

-- a sort of two rising lists, one behind the other, merges them
pub sort-merges : (xs ys zs : List ℕ) → is_rising xs ≡ true → is_rising ys ≡ true → ((z : ℕ) → In z xs → In z ys → ⊥)
    → IsPermutation (xs ++ ys) zs → IsNonDecreasingBy (λ x. x) zs → zs ≡ merge_rising xs ys
sort-merges xs ys zs p q d moved sorted =
    ascends-same zs (merge_rising xs ys) (sorted-ascends zs sorted) (rising-ascends (merge_rising xs ys) (merge-rising xs ys p q d))
    (λ z. sum_by-IsPermutation (is_one z) (xs ++ ys) zs moved ∙ (sum_by-append (is_one z) xs ys ∙ sym (times-merge z xs ys)))

-- merged lists are as long as both
pub length-merge : (xs ys : List ℕ) → length (merge_rising xs ys) ≡ length xs + length ys
length-merge [] ys = omega arith
length-merge (x ∷ xs) ys = let i : length (merge_rising xs ys) ≡ length xs + length ys = length-merge xs ys in let t : length
    (insert_rising x (merge_rising xs ys)) ≡ suc (length (merge_rising xs ys)) = insert x (merge_rising xs ys) in omega arith
  where
    insert : (n : ℕ) (zs : List ℕ) → length (insert_rising n zs) ≡ suc (length zs)
    insert n [] = refl
    insert n (z ∷ zs) = go (nat_lt n z) refl (insert n zs)
      where
        go : (t : Bool) → nat_lt n z ≡ t → length (insert_rising n zs) ≡ suc (length zs) → length (insert_rising n (z ∷ zs)) ≡ suc (length (z ∷ zs))
        go true p i = rw (insert_rising, p) refl
        go false p i = rw (insert_rising, p) (ap suc i)
