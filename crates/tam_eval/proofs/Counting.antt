-- How many elements of a list pass a test.
use Rattle.std.proofs.Common.{◌≡◌, ◌≢◌, ℕ, zero, suc, ◌+◌, ◌<◌, ◌≤◌, Bool, true, false, ◌==◌, ◌&&◌, List, [], ◌∷◌, ◌++◌, length, map, filter, refl}
use Rattle.std.proofs.Common.{sym, ap, ◌∙◌}
use Rattle.std.proofs.Common.{arith, inl, inr, length-append}
use Rattle.std.specs.Prelude.{cond, count_by, flat_map, slice_index_or}
use Rattle.std.proofs.lemmas.List.Sums.{sum_by-cons, sum_by-append, sum_by_push, length-filter}
use Rattle.std.proofs.lemmas.List.Concat.{flat_map-append}
use Rattle.std.proofs.lemmas.List.{append-nil}
use Rattle.tam_word.specs.Lists.{below}
use Rattle.tam_word.proofs.Tests.{number-eq, number-differs, differs-number}
use Rattle.tam_word.proofs.Members.{In}
use Rattle.tam_word.proofs.Sifted.{filter-twice}

-- a test as a number
abbrev pub as_one : Bool → ℕ
as_one t = cond t 1 0

-- which is 1 at most
pub as_one-most : (t : Bool) → as_one t ≤ 1
as_one-most true = omega arith
as_one-most false = omega arith

module _ {X : Type 0} where
  -- one more in front
  pub count-cons : (p : X → Bool) (x : X) (xs : List X) → count_by p (x ∷ xs) ≡ as_one (p x) + count_by p xs
  count-cons p x xs = sum_by-cons (λ y. as_one (p y)) x xs

  -- two lists
  pub count-append : (p : X → Bool) (xs ys : List X) → count_by p (xs ++ ys) ≡ count_by p xs + count_by p ys
  count-append p xs ys = sum_by-append (λ y. as_one (p y)) xs ys

  -- one more behind
  pub count-push : (p : X → Bool) (xs : List X) (x : X) → count_by p (xs ++ x ∷ []) ≡ count_by p xs + as_one (p x)
  count-push p xs x = sum_by_push (λ y. as_one (p y)) xs x

  -- sifted
  pub count-filter : (p q : X → Bool) (xs : List X) → count_by p (filter q xs) ≡ count_by (λ x. q x && p x) xs
  count-filter p q xs = sym (length-filter p (filter q xs)) ∙ ap length (filter-twice q p xs) ∙ length-filter (λ x. q x && p x) xs

  -- none
  pub count-none : (p : X → Bool) (xs : List X) → ((x : X) → In x xs → p x ≡ false) → count_by p xs ≡ 0
  count-none p [] h = refl
  count-none p (x ∷ xs) h =
      count-cons p x xs ∙ (let e : as_one (p x) ≡ 0 = ap as_one (h x (inl refl)) in
      let r = count-none p xs (λ y i. h y (inr i)) in omega arith)

  -- where there are none, each fails
  pub none-counted : (p : X → Bool) (xs : List X) → count_by p xs ≡ 0 → (x : X) → In x xs → p x ≡ false
  none-counted p [] h x i = absurd i
  none-counted p (y ∷ ys) h x (inl e) = ap p (sym e) ∙ fails (p y) (let c = count-cons p y ys in omega arith)
    where
      fails : (t : Bool) → as_one t ≡ 0 → t ≡ false
      fails true k = absurd (omega arith)
      fails false k = refl
  none-counted p (y ∷ ys) h x (inr i) = none-counted p ys (let c = count-cons p y ys in omega arith) x i

  -- the sums of two tests
  pub count-sums : (p q r s : X → Bool) → ((x : X) → as_one (p x) + as_one (q x) ≡ as_one (r x) + as_one (s x)) → (xs : List X)
      → count_by p xs + count_by q xs ≡ count_by r xs + count_by s xs
  count-sums p q r s h [] = refl
  count-sums p q r s h (x ∷ xs) =
      omega (arith, count-cons p x xs, count-cons q x xs, count-cons r x xs, count-cons s x xs, h x, count-sums p q r s h xs)

  -- tests that agree
  pub count-alike : (p q : X → Bool) → ((x : X) → p x ≡ q x) → (xs : List X) → count_by p xs ≡ count_by q xs
  count-alike p q h [] = refl
  count-alike p q h (x ∷ xs) =
      let e : as_one (p x) ≡ as_one (q x) = ap as_one (h x) in
      omega (arith, count-cons p x xs, count-cons q x xs, e, count-alike p q h xs)

-- ---- numbers below a bound

-- how many there are
pub length-below : (n : ℕ) → length (below n) ≡ n
length-below zero = refl
length-below (suc n) = omega (arith, length-append (below n) (n ∷ []), length-below n)

-- tests that agree below the bound
pub count-below_alike : (p q : ℕ → Bool) (n : ℕ) → ((x : ℕ) → x < n → p x ≡ q x) → count_by p (below n) ≡ count_by q (below n)
count-below_alike p q zero h = refl
count-below_alike p q (suc n) h =
    let e : as_one (p n) ≡ as_one (q n) = ap as_one (h n (omega arith)) in
    omega (arith, count-push p (below n) n, count-push q (below n) n, e, count-below_alike p q n (λ x l. h x (omega arith)))

-- tests that agree but at one number
pub count-below_one : (p q : ℕ → Bool) (y n : ℕ) → ((x : ℕ) → y ≢ x → p x ≡ q x) → p y ≡ false → q y ≡ true → y < n
    → count_by p (below n) + 1 ≡ count_by q (below n)
count-below_one p q y zero h a b l = absurd (omega arith)
count-below_one p q y (suc n) h a b l = go (y == n) refl (count-below_one p q y n h a b)
  where
    go : (t : Bool) → (y == n) ≡ t → (y < n → count_by p (below n) + 1 ≡ count_by q (below n))
        → count_by p (below n ++ n ∷ []) + 1 ≡ count_by q (below n ++ n ∷ [])
    go true e rest =
        let same : y ≡ n = number-eq y n e in
        let c : as_one (p n) ≡ 0 = ap as_one (ap p (sym same) ∙ a) in
        let d : as_one (q n) ≡ 1 = ap as_one (ap q (sym same) ∙ b) in
        omega (arith, count-push p (below n) n, count-push q (below n) n, c, d, count-below_alike p q n (λ x k. h x (λ i. absurd (omega arith))))
    go false e rest =
        let differ : y ≢ n = number-differs y n e in
        let c : as_one (p n) ≡ as_one (q n) = ap as_one (h n differ) in
        omega (arith, count-push p (below n) n, count-push q (below n) n, c, rest (omega arith))

-- the first number apart
count-below_first : (q : ℕ → Bool) (n : ℕ) → count_by q (below (suc n)) ≡ as_one (q 0) + count_by (λ i. q (suc i)) (below n)
count-below_first q zero = count-push q [] 0 ∙ omega arith
count-below_first q (suc n) =
    omega (arith, count-push q (below (suc n)) (suc n), count-push (λ i. q (suc i)) (below n) n, count-below_first q n)

-- the elements of a list of numbers by their places
pub count-places : (p : ℕ → Bool) (xs : List ℕ) → count_by p xs ≡ count_by (λ i. p (slice_index_or xs i 0)) (below (length xs))
count-places p [] = refl
count-places p (x ∷ xs) =
    omega (arith, count-cons p x xs, count-below_first (λ i. p (slice_index_or (x ∷ xs) i 0)) (length xs), count-places p xs)

-- ---- pairs

-- the pairs of one first number
pub count-pairs : (i j : ℕ) (xs : List ℕ) → count_by (λ (r : ℕ × ℕ). r.0 == j) (map (λ x. (i, x)) xs) ≡ cond (i == j) (length xs) 0
count-pairs i j [] = none (i == j)
  where
    none : (t : Bool) → ◌≡◌ {A = ℕ} 0 (cond t 0 0)
    none true = refl
    none false = refl
count-pairs i j (x ∷ xs) = go (i == j) refl (count-pairs i j xs)
  where
    go : (t : Bool) → (i == j) ≡ t → count_by (λ (r : ℕ × ℕ). r.0 == j) (map (λ y. (i, y)) xs) ≡ cond t (length xs) 0
        → count_by (λ (r : ℕ × ℕ). r.0 == j) ((i, x) ∷ map (λ y. (i, y)) xs) ≡ cond t (suc (length xs)) 0
    go true e r =
        let c : as_one (i == j) ≡ 1 = ap as_one e in
        omega (arith, count-cons (λ (r : ℕ × ℕ). r.0 == j) (i, x) (map (λ y. (i, y)) xs), c, r)
    go false e r =
        let c : as_one (i == j) ≡ 0 = ap as_one e in
        omega (arith, count-cons (λ (r : ℕ × ℕ). r.0 == j) (i, x) (map (λ y. (i, y)) xs), c, r)

module _ (F : ℕ → List ℕ) where
  -- the pairs of each number below a bound with its list
  abbrev pub pairs_below : ℕ → List (ℕ × ℕ)
  pairs_below n = flat_map (λ i. map (λ x. (i, x)) (F i)) (below n)

  -- one number more
  pairs-more : (j n : ℕ) → count_by (λ (r : ℕ × ℕ). r.0 == j) (pairs_below (suc n))
      ≡ count_by (λ (r : ℕ × ℕ). r.0 == j) (pairs_below n) + cond (n == j) (length (F n)) 0
  pairs-more j n =
      ap (count_by (λ (r : ℕ × ℕ). r.0 == j)) (flat_map-append (λ i. map (λ x. (i, x)) (F i)) (below n) (n ∷ []) ∙ ap (λ l. pairs_below n ++ l) nil)
      ∙ count-append (λ (r : ℕ × ℕ). r.0 == j) (pairs_below n) (map (λ x. (n, x)) (F n))
      ∙ ap (λ k. count_by (λ (r : ℕ × ℕ). r.0 == j) (pairs_below n) + k) (count-pairs n j (F n))
    where
      mine : List (ℕ × ℕ)
      mine = map (λ x. (n, x)) (F n)

      nil : mine ++ [] ≡ mine
      nil = append-nil mine

  -- those of a number that isn't below it
  pub count-pairs_past : (j n : ℕ) → n ≤ j → count_by (λ (r : ℕ × ℕ). r.0 == j) (pairs_below n) ≡ 0
  count-pairs_past j zero l = refl
  count-pairs_past j (suc n) l =
      let e : cond (n == j) (length (F n)) 0 ≡ 0 = ap (λ t. cond t (length (F n)) 0) (differs-number n j (λ k. absurd (omega arith))) in
      omega (arith, pairs-more j n, e, count-pairs_past j n (omega arith))

  -- those of one below it
  pub count-pairs_below : (j n : ℕ) → j < n → count_by (λ (r : ℕ × ℕ). r.0 == j) (pairs_below n) ≡ length (F j)
  count-pairs_below j zero l = absurd (omega arith)
  count-pairs_below j (suc n) l = go (n == j) refl (count-pairs_below j n)
    where
      go : (t : Bool) → (n == j) ≡ t → (j < n → count_by (λ (r : ℕ × ℕ). r.0 == j) (pairs_below n) ≡ length (F j))
          → count_by (λ (r : ℕ × ℕ). r.0 == j) (pairs_below (suc n)) ≡ length (F j)
      go true e rest =
          let same : n ≡ j = number-eq n j e in
          let here : cond (n == j) (length (F n)) 0 ≡ length (F j) = ap (λ t. cond t (length (F n)) 0) e ∙ ap (λ k. length (F k)) same in
          omega (arith, pairs-more j n, here, count-pairs_past j n (omega arith))
      go false e rest =
          let differ : n ≢ j = number-differs n j e in
          let none : cond (n == j) (length (F n)) 0 ≡ 0 = ap (λ t. cond t (length (F n)) 0) e in
          omega (arith, pairs-more j n, none, rest (omega arith))
