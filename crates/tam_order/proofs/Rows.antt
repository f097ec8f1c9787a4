-- Lists by place: numbers that are set at some places, and rows of sets of which one changes.
use Rattle.std.proofs.Common.{◌≡◌, ◌≢◌, ℕ, zero, suc, ◌+◌, ◌<◌, Bool, true, false, ◌||◌, ◌==◌, List, [], ◌∷◌, map, drop, get_or, slice_set}
use Rattle.std.proofs.Common.{slice_index, length, refl, sym, ap}
use Rattle.std.proofs.Common.{◌∙◌, arith, inl, inr, ◌⊎◌, true≢false}
use Rattle.std.proofs.lemmas.List.{drop_more, get_or-set_same, get_or-set_other, length-set, same_lists}
use Rattle.tam_word.specs.Lists.{below, has}
use Rattle.tam_word.proofs.Tests.{self-eq, differs-number, number-eq, number-differs}
use Rattle.tam_reach.proofs.Spread.{length-map-below, get-map-below, map-below}
use Rattle.tam_sets.specs.Sets.{places_where, with_place}
use Rattle.tam_sets.proofs.PlacesWhere.{places-same, has-where}

-- ---- members

-- a list has what stands behind its first
pub has-later : (y : ℕ) (ys : List ℕ) (x : ℕ) → has ys x ≡ true → has (y ∷ ys) x ≡ true
has-later y ys x h = go (y == x)
  where
    go : (t : Bool) → elim t [ true ↦ true | false ↦ has ys x ] ≡ true
    go true = refl
    go false = h

-- and what stands at a place
pub has-at : (xs : List ℕ) (k : ℕ) → k < length xs → has xs (get_or xs k 0) ≡ true
has-at [] k l = absurd (omega arith)
has-at (x ∷ xs) zero l = ap (λ (t : Bool). elim t [ true ↦ true | false ↦ has xs x ]) (self-eq x)
has-at (x ∷ xs) (suc k) l = has-later x xs (get_or xs k 0) (has-at xs k (omega arith))

-- what stands neither first nor behind
has-neither : (y : ℕ) (ys : List ℕ) (x : ℕ) → y ≢ x → has ys x ≡ false → has (y ∷ ys) x ≡ false
has-neither y ys x d h = ap (λ (t : Bool). elim t [ true ↦ true | false ↦ has ys x ]) (differs-number y x d) ∙ h

-- what stands neither at a place nor behind it
pub has-from : (xs : List ℕ) (k x : ℕ) → k < length xs → get_or xs k 0 ≢ x → has (drop (k + 1) xs) x ≡ false → has (drop k xs) x ≡ false
has-from xs k x l d h = ap (λ ys. has ys x) (drop_more xs k 0 l) ∙ has-neither (get_or xs k 0) (drop (k + 1) xs) x d h

-- a number is another or not
pub same-or_not : (x y : ℕ) → (x ≡ y) ⊎ (x ≢ y)
same-or_not x y = go (x == y) refl
  where
    go : (t : Bool) → (x == y) ≡ t → (x ≡ y) ⊎ (x ≢ y)
    go true e = inl (number-eq x y e)
    go false e = inr (number-differs x y e)

-- ---- a number that is set

module _ (numbers places : List ℕ) (number k : ℕ) (there : k < length places) (inside : get_or places k 0 < length numbers) where
  -- at the place
  pub set-here : ((x : ℕ) → has places x ≡ true → has (drop k places) x ≡ false → slice_index numbers x ≡ number)
      → (x : ℕ) → has places x ≡ true → has (drop (k + 1) places) x ≡ false → slice_index (slice_set numbers (get_or places k 0) number) x ≡ number
  set-here before x h d = go (same-or_not x (get_or places k 0))
    where
      go : (x ≡ get_or places k 0) ⊎ (x ≢ get_or places k 0) → slice_index (slice_set numbers (get_or places k 0) number) x ≡ number
      go (inl e) = ap (λ y. slice_index (slice_set numbers (get_or places k 0) number) y) e ∙ get_or-set_same numbers (get_or places k 0) number 0 inside
      go (inr e) =
          get_or-set_other numbers (get_or places k 0) x number 0 e ∙ before x h (has-from places k x there (λ p. e (sym p)) d)

  -- and nowhere else
  pub set-elsewhere : (x : ℕ) → has places x ≡ false → slice_index (slice_set numbers (get_or places k 0) number) x ≡ slice_index numbers x
  set-elsewhere x h =
      get_or-set_other numbers (get_or places k 0) x number 0 (λ e. true≢false (sym (has-at places k there) ∙ (ap (λ y. has places y) (sym e) ∙ h)))

-- ---- rows

-- one row of a table changes
pub set-map-below : (f g : ℕ → List ℕ) (n a : ℕ) (s : List ℕ) → a < n → s ≡ g a → ((k : ℕ) → k < n → k ≢ a → f k ≡ g k)
    → slice_set (map f (below n)) a s ≡ map g (below n)
set-map-below f g n a s l e same = same_lists (slice_set (map f (below n)) a s) (map g (below n)) long at
  where
    long : length (slice_set (map f (below n)) a s) ≡ length (map g (below n))
    long = length-set (map f (below n)) a s ∙ (length-map-below f n ∙ sym (length-map-below g n))

    at : (k : ℕ) (d : List ℕ) → k < length (slice_set (map f (below n)) a s) → get_or (slice_set (map f (below n)) a s) k d ≡ get_or (map g (below n)) k d
    at k d q = go (same-or_not k a)
      where
        small : k < n
        small = let m = length-set (map f (below n)) a s in let j = length-map-below f n in omega (arith, q, m, j)

        go : (k ≡ a) ⊎ (k ≢ a) → get_or (slice_set (map f (below n)) a s) k d ≡ get_or (map g (below n)) k d
        go (inl p) =
            ap (λ j. get_or (slice_set (map f (below n)) a s) j d) p
            ∙ (get_or-set_same (map f (below n)) a s d (let j = length-map-below f n in omega (arith, j))
            ∙ (e ∙ (ap g (sym p) ∙ sym (get-map-below g n k d small))))
        go (inr p) = get_or-set_other (map f (below n)) a k s d p ∙ (get-map-below f n k d small ∙ (same k small p ∙ sym (get-map-below g n k d small)))

-- one place goes into a row of a table that is given by tests
pub row-grows : (f g : ℕ → ℕ → Bool) (n a p : ℕ) (row : List ℕ) → a < n → row ≡ with_place p (places_where (f a))
    → ((y : ℕ) → (f a y || (y == p)) ≡ g a y) → ((k y : ℕ) → k ≢ a → f k y ≡ g k y)
    → slice_set (map (λ k. places_where (f k)) (below n)) a row ≡ map (λ k. places_where (g k)) (below n)
row-grows f g n a p row l e here elsewhere =
    set-map-below (λ k. places_where (f k)) (λ k. places_where (g k)) n a row l
    (e ∙ places-same (λ y. has (places_where (f a)) y || (y == p)) (g a) (λ y m. ap (λ t. t || (y == p)) (has-where (f a) y m) ∙ here y))
    (λ k q d. places-same (f k) (g k) (λ y m. elsewhere k y d))

-- tables of no sets
pub rows-empty : (f : ℕ → List ℕ) (n : ℕ) (rows : List (List ℕ)) → rows ≡ map (λ _. []) (below n) → ((k : ℕ) → [] ≡ f k) → rows ≡ map f (below n)
rows-empty f n rows e none = e ∙ map-below (λ _. []) f n (λ k l. none k)
