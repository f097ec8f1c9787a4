-- The tables of a code's nodes, one node after another.
use Rattle.std.proofs.Common.{◌≡◌, ◌≢◌, ◌∙◌, ℕ, suc, ◌+◌, ◌<◌, ◌≤◌, Bool, true, false, cond, ◌==◌, List, [], ◌∷◌, ◌++◌, map, filter, flat_map, drop, length}
use Rattle.std.proofs.Common.{get_or, slice_get, Some, slice_set, slice_index, refl, sym, ap, arith, add-one, append_assoc, inl, inr, ◌⊎◌}
use Rattle.std.specs.Option.{option_map}
use Rattle.std.proofs.lemmas.Option.{slice_get-map, get_or_from_slice_get}
use Rattle.std.proofs.lemmas.List.{length-map, map-append, drop_more, get_or-set_same, get_or-set_other, length-set}
use Rattle.std.proofs.lemmas.List.Sums.{sum_by_push, count_by-le-length}
use Rattle.tam_word.specs.Lists.{below, where_so}
use Rattle.tam_word.proofs.Tests.{eq-number, differs-number}
use Rattle.tam_word.proofs.Sifted.{filter-below_more}
use Rattle.tam_graph.specs.Graphs.{Code, kind_at, has_value}
use Rattle.tam_graph.proofs.FewNodes.{length-below}
use Rattle.tam_order.proofs.Rows.{same-or_not}
use Rattle.tam_order.proofs.ClassNumbers.{length-numbers, numbers-at, numbers-are}
use Rattle.tl0_keep.specs.Compiled.{slot_of, place_in}
use Rattle.tl0_keep.proofs.code.FlatPlaces.{flat-next, get-below}

-- ---- lists over the numbers below n

-- one value more
pub map-more : {X : Type 0} (f : ℕ → X) (n : ℕ) → map f (below (n + 1)) ≡ map f (below n) ++ f n ∷ []
map-more f n = ap (λ m. map f (below m)) (add-one n) ∙ map-append f (below n) (n ∷ [])

-- there are as many values
pub map-long : {X : Type 0} (f : ℕ → X) (n : ℕ) → length (map f (below n)) ≡ n
map-long f n = length-map (below n) f ∙ length-below n

-- the value at a place
pub map-at : {X : Type 0} (f : ℕ → X) (n k : ℕ) → k < n → slice_get (map f (below n)) k ≡ Some (f k)
map-at f n k l = slice_get-map f (below n) k ∙ ap (option_map f) (get-below n k l)

-- and as it is read
pub map-read : {X : Type 0} (f : ℕ → X) (n k : ℕ) (d : X) → k < n → get_or (map f (below n)) k d ≡ f k
map-read f n k d l = get_or_from_slice_get (map f (below n)) k (f k) d (map-at f n k l)

-- one list more, behind others
pub flat-more : {X : Type 0} (f : ℕ → List X) (n : ℕ) (others olds : List X) → olds ≡ others ++ flat_map f (below n)
    → olds ++ f n ≡ others ++ flat_map f (below (n + 1))
flat-more f n others olds before =
    ap (λ l. l ++ f n) before
    ∙ (append_assoc others (flat_map f (below n)) (f n)
    ∙ ap (λ l. others ++ l) (sym (flat-next f n) ∙ ap (λ m. flat_map f (below m)) (sym (add-one n))))

-- one number more that passes
pub filter-more_yes : (p : ℕ → Bool) (n : ℕ) → p n ≡ true → filter p (below (n + 1)) ≡ filter p (below n) ++ n ∷ []
filter-more_yes p n h = filter-below_more p n ∙ ap (λ t. filter p (below n) ++ where_so t n) h

-- and one that doesn't
pub filter-more_no : (p : ℕ → Bool) (n : ℕ) → p n ≡ false → filter p (below (n + 1)) ≡ filter p (below n)
filter-more_no p n h = filter-below_more p n ∙ (ap (λ t. filter p (below n) ++ where_so t n) h ∙ nothing (filter p (below n)))
  where
    nothing : (xs : List ℕ) → xs ++ [] ≡ xs
    nothing [] = refl
    nothing (x ∷ xs) = ap (λ l. x ∷ l) (nothing xs)

-- ---- slots

module _ (c : Code) where
  -- the next node's slot is one further where this one has a value
  slot-next : (n : ℕ) → slot_of c (n + 1) ≡ slot_of c n + cond (has_value (kind_at c n)) 1 0
  slot-next n = ap (slot_of c) (add-one n) ∙ (let s = sum_by_push (λ y. cond (has_value (kind_at c y)) 1 0) (below n) n in omega (arith, s))

  -- so it is
  pub slot-more : (n : ℕ) → has_value (kind_at c n) ≡ true → slot_of c (n + 1) ≡ slot_of c n + 1
  slot-more n h = slot-next n ∙ ap (λ t. slot_of c n + cond {A = ℕ} t 1 0) h

  -- and it isn't where this one has none
  pub slot-same : (n : ℕ) → has_value (kind_at c n) ≡ false → slot_of c (n + 1) ≡ slot_of c n
  slot-same n h = slot-next n ∙ (ap (λ t. slot_of c n + cond {A = ℕ} t 1 0) h ∙ (let e : slot_of c n + 0 ≡ slot_of c n = omega arith in e))

  -- there are no more slots than two and the nodes
  pub slot-few : (n : ℕ) → slot_of c n ≤ n + 2
  slot-few n =
      let l = count_by-le-length (λ y. has_value (kind_at c y)) (below n) in
      let m = length-below n in
      omega (arith, l, m)

-- ---- places in a list, from its end on

-- the number of x where the list from place k on was seen
abbrev pub place_from : List ℕ → ℕ → ℕ → ℕ
place_from xs k x = k + place_in (drop k xs) x

-- an element that stands at the place
place-here : (xs : List ℕ) (j x : ℕ) → j < length xs → get_or xs j 0 ≡ x → place_in (drop j xs) x ≡ 0
place-here xs j x l e =
    ap (λ ys. place_in ys x) (drop_more xs j 0 l)
    ∙ ap (λ (t : Bool). elim t [ true ↦ 0 | false ↦ suc (place_in (drop (j + 1) xs) x) ]) (eq-number (get_or xs j 0) x e)

-- another
place-later : (xs : List ℕ) (j x : ℕ) → j < length xs → get_or xs j 0 ≢ x → place_in (drop j xs) x ≡ suc (place_in (drop (j + 1) xs) x)
place-later xs j x l d =
    ap (λ ys. place_in ys x) (drop_more xs j 0 l)
    ∙ ap (λ (t : Bool). elim t [ true ↦ 0 | false ↦ suc (place_in (drop (j + 1) xs) x) ]) (differs-number (get_or xs j 0) x d)

-- no place is behind the last
pub place-few : (xs : List ℕ) (x : ℕ) → place_in xs x ≤ length xs
place-few [] x = omega arith
place-few (y ∷ ys) x = go (y == x) refl (place-few ys x)
  where
    go : (t : Bool) → (y == x) ≡ t → place_in ys x ≤ length ys → place_in (y ∷ ys) x ≤ suc (length ys)
    go true e i = rw (place_in, e) (omega arith)
    go false e i = rw (place_in, e) (omega (arith, i))

-- nothing was seen
pub place_from-end : (xs : List ℕ) (n : ℕ) → map (λ _. length xs) (below n) ≡ map (place_from xs (length xs)) (below n)
place_from-end xs n = go (below n)
  where
    rest : (ys : List ℕ) → drop (length ys) ys ≡ []
    rest [] = refl
    rest (y ∷ ys) = rest ys

    at : (x : ℕ) → length xs ≡ place_from xs (length xs) x
    at x = let e = ap (λ ys. place_in ys x) (rest xs) in omega (arith, e)

    go : (ys : List ℕ) → map (λ _. length xs) ys ≡ map (place_from xs (length xs)) ys
    go [] = refl
    go (y ∷ ys) = ap (λ v. v ∷ map (λ _. length xs) ys) (at y) ∙ ap (λ l. place_from xs (length xs) y ∷ l) (go ys)

-- one place more was seen
module _ (xs : List ℕ) (j n : ℕ) (there : j < length xs) (inside : get_or xs j 0 < n) where
  -- so the number at the place is set
  pub place_from-next : (places : List ℕ) → places ≡ map (place_from xs (j + 1)) (below n)
      → slice_set places (get_or xs j 0) j ≡ map (place_from xs j) (below n)
  place_from-next places before =
      numbers-are (place_from xs j) n (slice_set places (get_or xs j 0) j) (length-set places (get_or xs j 0) j ∙ long)
      (λ x l. at x l (same-or_not x (get_or xs j 0)))
    where
      long : length places ≡ n
      long = ap length before ∙ length-numbers (place_from xs (j + 1)) n

      at : (x : ℕ) → x < n → (x ≡ get_or xs j 0) ⊎ (x ≢ get_or xs j 0) → slice_index (slice_set places (get_or xs j 0) j) x ≡ place_from xs j x
      at x l (inl e) =
          ap (λ y. slice_index (slice_set places (get_or xs j 0) j) y) e
          ∙ (get_or-set_same places (get_or xs j 0) j 0 (omega (arith, long, inside))
          ∙ (let h = place-here xs j x there (sym e) in omega (arith, h)))
      at x l (inr d) =
          get_or-set_other places (get_or xs j 0) x j 0 d
          ∙ (ap (λ ys. slice_index ys x) before
          ∙ (numbers-at (place_from xs (j + 1)) n x l
          ∙ (let h = place-later xs j x there (λ e. d (sym e)) in omega (arith, h))))
