-- The least pair of classes that passes a test, found pair by pair; and the partition as one merge after the other.
use Rattle.std.proofs.Common.{◌≡◌, ℕ, zero, suc, ◌<◌, List, [], ◌∷◌, ◌++◌, Bool, true, false, refl, sym, subst, ap, arith, inl, inr, ◌∙◌, ◌==◌}
use Rattle.std.proofs.Common.{map, filter, flat_map, nat_lt, length, tests}
use Rattle.std.proofs.lemmas.List.Concat.{flat_map-append, flat_map-cons}
use Rattle.tam_word.specs.Lists.{below, first_of}
use Rattle.tam_word.proofs.Tests.{number-eq, test-below}
use Rattle.tam_word.proofs.Members.{In, in-below, in-flat_map, in-map, in-filter}
use Rattle.tam_split.specs.Blocks.{BlockGraph}
use Rattle.tam_split.specs.Partitions.{Parts, pairs_below, least_pair, merged, merged_while, partition_of, single}
use Rattle.tam_split.proofs.Classes.{length-merged}
use Rattle.tam_split.proofs.Partitioning.{in-pair, length-single}

module _ {X : Type 0} (test : X → Bool) where
  -- where none passes there is no first
  pub first-none : (xs : List X) → ((x : X) → In x xs → test x ≡ false) → first_of test xs ≡ []
  first-none [] h = refl
  first-none (x ∷ xs) h = rw (first_of, h x (inl refl)) (first-none xs (λ y i. h y (inr i)))

  -- behind elements of which none passes the first is the second list's
  pub first-behind : (xs ys : List X) → ((x : X) → In x xs → test x ≡ false) → first_of test (xs ++ ys) ≡ first_of test ys
  first-behind [] ys h = refl
  first-behind (x ∷ xs) ys h = rw (first_of, h x (inl refl)) (first-behind xs ys (λ y i. h y (inr i)))

  -- the first of a list is the first with more behind it
  pub first-before : (xs ys : List X) (x : X) → first_of test xs ≡ x ∷ [] → first_of test (xs ++ ys) ≡ x ∷ []
  first-before [] ys x h = absurd (no h)
    where
      no : {A : Type 0} {a : A} → [] ≡ a ∷ [] → ⊥
      no e = cc
  first-before (z ∷ xs) ys x h = go (test z) refl (first-before xs ys x)
    where
      go : (t : Bool) → test z ≡ t → (first_of test xs ≡ x ∷ [] → first_of test (xs ++ ys) ≡ x ∷ []) → first_of test (z ∷ xs ++ ys) ≡ x ∷ []
      go true p i = rw (first_of, p) (rw (first_of, p) at h)
      go false p i = rw (first_of, p) (i (rw (first_of, p) at h))

  -- the first of the lists of the numbers below n is that of the list of k, where none passes in the lists before
  pub first-below : (f : ℕ → List X) (n k : ℕ) (x : X) → k < n → first_of test (f k) ≡ x ∷ []
      → ((a : ℕ) → a < k → (y : X) → In y (f a) → test y ≡ false) → first_of test (flat_map f (below n)) ≡ x ∷ []
  first-below f zero k x l h none = absurd (omega arith)
  first-below f (suc n) k x l h none =
      ap (first_of test) (flat_map-append f (below n) (n ∷ [])) ∙ go (k == n) refl (first-below f n k x)
    where
      go : (t : Bool) → (k == n) ≡ t
          → (k < n → first_of test (f k) ≡ x ∷ [] → ((a : ℕ) → a < k → (y : X) → In y (f a) → test y ≡ false) → first_of test (flat_map f (below n)) ≡ x ∷ [])
          → first_of test (flat_map f (below n) ++ flat_map f (n ∷ [])) ≡ x ∷ []
      go false p i = first-before (flat_map f (below n)) (flat_map f (n ∷ [])) x (i (grind (arith, tests)) h none)
      go true p i =
          first-behind (flat_map f (below n)) (flat_map f (n ∷ [])) before
          ∙ (ap (first_of test) (flat_map-cons f n []) ∙ first-before (f n) (flat_map f []) x (subst (λ m. first_of test (f m) ≡ x ∷ []) (number-eq k n p) h))
        where
          before : (y : X) → In y (flat_map f (below n)) → test y ≡ false
          before y i = let r = in-flat_map f y (below n) i in none r.0 (subst (λ m. r.0 < m) (sym (number-eq k n p)) (in-below r.0 n r.1)) y r.2

-- the pairs with a as their first
abbrev row : ℕ → ℕ → List (ℕ × ℕ)
row n a = map (λ c. (a, c)) (filter (λ c. nat_lt a c) (below n))

-- the pair of a and c, where c is above a
abbrev above : ℕ → ℕ → List (ℕ × ℕ)
above a c = elim (nat_lt a c) [ true ↦ (a, c) ∷ [] | false ↦ [] ]

-- a row is the pairs of a and each number
row-above : (a : ℕ) (xs : List ℕ) → map (λ (c : ℕ). (a, c)) (filter (λ c. nat_lt a c) xs) ≡ flat_map (above a) xs
row-above a [] = refl
row-above a (x ∷ xs) = go (nat_lt a x) refl (row-above a xs)
  where
    go : (t : Bool) → nat_lt a x ≡ t → map (λ (c : ℕ). (a, c)) (filter (λ c. nat_lt a c) xs) ≡ flat_map (above a) xs
        → map (λ (c : ℕ). (a, c)) (filter (λ c. nat_lt a c) (x ∷ xs)) ≡ flat_map (above a) (x ∷ xs)
    go true p i = rw (above, p) (ap (λ ps. (a, x) ∷ ps) i)
    go false p i = rw (above, p) i

module _ (test : ℕ × ℕ → Bool) (n : ℕ) where
  -- none of the pairs before (k, l) passes
  pub record NoneBefore (k l : ℕ) : Type 0 where
    pub rows : (a c : ℕ) → a < k → a < c → c < n → test (a, c) ≡ false
    pub here : (c : ℕ) → k < c → c < l → test (k, c) ≡ false

  -- the first pair that passes is the least
  pub pair-first : (k l : ℕ) → k < l → l < n → test (k, l) ≡ true → NoneBefore k l → first_of test (pairs_below n) ≡ (k, l) ∷ []
  pair-first k l lower upper h none = first-below test (row n) n k (k, l) (omega arith) in-row before
    where
      only : first_of test (above k l) ≡ (k, l) ∷ []
      only = let p : nat_lt k l ≡ true = grind (arith, tests) in rw (above, p, first_of, h) refl

      not-here : (c : ℕ) → c < l → (y : ℕ × ℕ) → In y (above k c) → test y ≡ false
      not-here c low y i = go (nat_lt k c) refl
        where
          go : (t : Bool) → nat_lt k c ≡ t → test y ≡ false
          go true p = elim (rw (above, p) at i) [ inl e ↦ subst (λ z. test z ≡ false) e (none.here c (test-below k c p) low) | inr m ↦ absurd m ]
          go false p = absurd (rw (above, p) at i)

      in-row : first_of test (row n k) ≡ (k, l) ∷ []
      in-row = ap (first_of test) (row-above k (below n)) ∙ first-below test (above k) n l (k, l) upper only not-here

      before : (a : ℕ) → a < k → (y : ℕ × ℕ) → In y (row n a) → test y ≡ false
      before a low y i =
          let r = in-map (λ (c : ℕ). (a, c)) y (filter (λ c. nat_lt a c) (below n)) i in
          let s = in-filter (λ c. nat_lt a c) r.0 (below n) r.1 in
          subst (λ z. test z ≡ false) r.2 (none.rows a r.0 low (test-below a r.0 s.1) (in-below r.0 n s.0))

  -- and where none passes there is no least pair
  pub pair-none : ((a c : ℕ) → a < c → c < n → test (a, c) ≡ false) → first_of test (pairs_below n) ≡ []
  pair-none h = first-none test (pairs_below n) (λ y i. let r = in-pair n y i in h y.0 y.1 r.0 r.1)

-- ---- one merge after the other

-- where a pair is least, what is left to merge is what is left once it is merged
pub while-merged : (b : BlockGraph) (ps : Parts) (k l : ℕ) → k < l → l < length ps → least_pair b ps ≡ (k, l) ∷ []
    → merged_while (length ps) b ps ≡ merged_while (length (merged ps k l)) b (merged ps k l)
while-merged b ps k l below within h = go (length ps) refl
  where
    go : (n : ℕ) → length ps ≡ n → merged_while (length ps) b ps ≡ merged_while (length (merged ps k l)) b (merged ps k l)
    go zero e = absurd (omega arith)
    go (suc n) e =
        let m : length (merged ps k l) ≡ n = let s : suc (length (merged ps k l)) ≡ length ps = length-merged ps k l within in omega arith in
        ap (λ i. merged_while i b ps) e ∙ (rw (merged_while, h) refl ∙ sym (ap (λ i. merged_while i b (merged ps k l)) m))

-- and where there is no least pair, nothing is
pub while-done : (n : ℕ) (b : BlockGraph) (ps : Parts) → least_pair b ps ≡ [] → merged_while n b ps ≡ ps
while-done zero b ps h = refl
while-done (suc n) b ps h = rw (merged_while, h) refl

-- from one class per place on
pub while-single : (b : BlockGraph) → merged_while (length (single (length b.vertices))) b (single (length b.vertices)) ≡ partition_of b
while-single b = ap (λ n. merged_while n b (single (length b.vertices))) (length-single (length b.vertices))
