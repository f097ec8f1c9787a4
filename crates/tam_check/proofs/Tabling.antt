-- A table of the first n nodes becomes one of n + 1.
use Rattle.std.proofs.Common.{◌≡◌, ◌≢◌, ℕ, zero, suc, ◌+◌, ◌*◌, ◌<◌, Bool, true, false, ◌&&◌, ◌||◌, ◌==◌, nat_lt, List, [], ◌∷◌, ◌++◌}
use Rattle.std.proofs.Common.{Option, Some, None, slice_get, slice_set, length, drop, refl, sym, ap, ◌∙◌, subst, arith, true≢false, inl, inr, ◌⊎◌}
use Rattle.std.specs.Prelude.{replicate}
use Rattle.std.proofs.lemmas.List.{length-set, length-append, length-replicate}
use Rattle.tam_word.specs.Lists.{below, any_of, all_of}
use Rattle.tam_word.proofs.Tests.{number-eq, eq-number, number-differs, differs-number, both-true, true-both, below-test}
use Rattle.tam_graph.specs.Graphs.{Code, block_at, kind_at}
use Rattle.tam_check.specs.declared.interface.Interface.{Interface}
use Rattle.tam_check.specs.declared.seen.Seen.{Seen}
use Rattle.tam_check.specs.declared.seen.Seen.TheVariants.{Nothing, Depth, Depths}
use Rattle.tam_check.specs.Interfaces.{interface_of, stands_at, handed_depth, agrees}
use Rattle.tam_check.specs.Tables.{is_something, is_only, with_depth, number, or_nothing, joined, row_at, row_entry, entry, same_side, Shows, IsTable}
use Rattle.tam_check.proofs.Scanning.{any-of_one, all-of_one, any-append, all-append_test}
use Rattle.tam_check.proofs.CycleTable.{get-before}
use Rattle.tam_check.proofs.Keys.{own_stands, stands-own, same-side, same-number}

-- ---- one place

-- one more node is something
with-something : (s : Seen) (e : ℕ) → is_something (with_depth s e) ≡ true
with-something Nothing e = refl
with-something (Depth d) e = go (d == e) refl
  where
    go : (b : Bool) → (d == e) ≡ b → is_something (with_depth (Depth d) e) ≡ true
    go true h = rw (is_something, h) refl
    go false h = rw (is_something, h) refl
with-something Depths e = refl

-- and all depths are one where they were, and it is its own
with-only : (s : Seen) (e d : ℕ) → is_only (with_depth s e) d ≡ (is_only s d && (e == d))
with-only Nothing e d = refl
with-only (Depth x) e d = go (x == e) refl (x == d) refl
  where
    go : (b : Bool) → (x == e) ≡ b → (t : Bool) → (x == d) ≡ t → is_only (with_depth (Depth x) e) d ≡ ((x == d) && (e == d))
    go true h t k = ap (λ z. is_only z d) one ∙ subst (λ z. (x == d) ≡ ((x == d) && (z == d))) (number-eq x e h) (twice (x == d))
      where
        one : with_depth (Depth x) e ≡ Depth x
        one = rw (with_depth, h) refl

        twice : (b : Bool) → b ≡ (b && b)
        twice true = refl
        twice false = refl
    go false h t k = ap (λ z. is_only z d) many ∙ sym (neither t k)
      where
        many : with_depth (Depth x) e ≡ Depths
        many = rw (with_depth, h) refl

        neither : (t : Bool) → (x == d) ≡ t → ((x == d) && (e == d)) ≡ false
        neither false q = rw q refl
        neither true q =
            let other : (e == d) ≡ false = differs-number e d (λ r. number-differs x e h (number-eq x d q ∙ sym r)) in
            rw (q, other) refl
with-only Depths e d = refl

module _ (c : Code) (n : ℕ) (i : Interface) (k : ℕ) (s : Seen) (shows : Shows c n i k s) where
  next : n + 1 ≡ suc n
  next = omega arith

  -- a place that some of n + 1 nodes have
  place-next : (b : Bool) → stands_at c i k n ≡ b → any_of (stands_at c i k) (below (n + 1)) ≡ (any_of (stands_at c i k) (below n) || b)
  place-next b e = rw next (any-append (stands_at c i k) (below n) (n ∷ [])
      ∙ ap (λ t. any_of (stands_at c i k) (below n) || t) (any-of_one (stands_at c i k) n ∙ e))

  -- a depth of all of n + 1 nodes
  depth-next : (d : ℕ) (b : Bool) → agrees c i k d n ≡ b → all_of (agrees c i k d) (below (n + 1)) ≡ (all_of (agrees c i k d) (below n) && b)
  depth-next d b e = rw next (all-append_test (agrees c i k d) (below n) (n ∷ [])
      ∙ ap (λ t. all_of (agrees c i k d) (below n) && t) (all-of_one (agrees c i k d) n ∙ e))

  -- a node of another place
  shows-other : stands_at c i k n ≡ false → Shows c (n + 1) i k s
  shows-other e = record {
    place = shows.place ∙ sym (place-next false e ∙ or-false (any_of (stands_at c i k) (below n)));
    depths = λ d. shows.depths d ∙ sym (depth-next d true (rw e refl) ∙ and-true (all_of (agrees c i k d) (below n)));
  }
    where
      or-false : (b : Bool) → (b || false) ≡ b
      or-false true = refl
      or-false false = refl

      and-true : (b : Bool) → (b && true) ≡ b
      and-true true = refl
      and-true false = refl

  -- a node of this place
  shows-own : stands_at c i k n ≡ true → Shows c (n + 1) i k (with_depth s (handed_depth c n))
  shows-own e = record {
    place = with-something s (handed_depth c n) ∙ sym (place-next true e ∙ or-true (any_of (stands_at c i k) (below n)));
    depths = λ d. with-only s (handed_depth c n) d
        ∙ (ap (λ b. b && (handed_depth c n == d)) (shows.depths d) ∙ sym (depth-next d (handed_depth c n == d) (rw e refl)));
  }
    where
      or-true : (b : Bool) → (b || true) ≡ true
      or-true true = refl
      or-true false = refl

-- ---- one entry

-- the entry that is set
get-set : {X : Type 0} (xs : List X) (n : ℕ) (x : X) → n < length xs → slice_get (slice_set xs n x) n ≡ Some x
get-set [] n x l = absurd (omega arith)
get-set (y ∷ ys) zero x l = refl
get-set (y ∷ ys) (suc n) x l = get-set ys n x (omega arith)

-- any other
get-other : {X : Type 0} (xs : List X) (n m : ℕ) (x : X) → n ≢ m → slice_get (slice_set xs n x) m ≡ slice_get xs m
get-other [] n m x d = refl
get-other (y ∷ ys) zero zero x d = absurd (d refl)
get-other (y ∷ ys) zero (suc m) x d = refl
get-other (y ∷ ys) (suc n) zero x d = refl
get-other (y ∷ ys) (suc n) (suc m) x d = get-other ys n m x (λ e. d (ap suc e))

-- what stands behind a list
get-after : {X : Type 0} (xs ys : List X) (k : ℕ) → slice_get (xs ++ ys) (length xs + k) ≡ slice_get ys k
get-after [] ys k = let e : 0 + k ≡ k = omega arith in rw e refl
get-after (x ∷ xs) ys k = let e : suc (length xs) + k ≡ suc (length xs + k) = omega arith in rw e (get-after xs ys k)

-- behind the first elements
pub get-drop : {X : Type 0} (xs : List X) (n k : ℕ) → slice_get (drop n xs) k ≡ slice_get xs (n + k)
get-drop xs zero k = let e : 0 + k ≡ k = omega arith in ap (slice_get xs) (sym e)
get-drop [] (suc n) k = refl
get-drop (x ∷ xs) (suc n) k = let e : suc n + k ≡ suc (n + k) = omega arith in get-drop xs n k ∙ ap (slice_get (x ∷ xs)) (sym e)

-- one of the same elements
get-same : {X : Type 0} (n : ℕ) (x : X) (k : ℕ) → k < n → slice_get (replicate n x) k ≡ Some x
get-same zero x k l = absurd (omega arith)
get-same (suc n) x zero l = refl
get-same (suc n) x (suc k) l = get-same n x k (omega arith)

-- a place below 64
entry-low : (rows : List (Option ℕ)) (seen : List Seen) (i : Interface) (k : ℕ) → k < 64 → entry rows seen i k ≡ row_entry seen (row_at rows (number i)) k
entry-low rows seen i k l = rw (entry, below-test k 64 l) refl

-- ---- the table

module _ (c : Code) (n interfaces : ℕ) (rows : List (Option ℕ)) (seen : List Seen) (is : IsTable c n interfaces rows seen) where
  -- where all that the table tells stays, and the node has none of its places
  kept : ((i : Interface) (k : ℕ) → k < 64 → number i < interfaces → stands_at c i k n ≡ false) → IsTable c (n + 1) interfaces rows seen
  kept none = record {
    len = is.len;
    whole = is.whole;
    fits = is.fits;
    apart = is.apart;
    each = λ i k l m. shows-other c n i k (entry rows seen i k) (is.each i k l m) (none i k l m);
  }

  -- a node of no interface
  pub table-none : interface_of (block_at c n) (kind_at c n) ≡ None → IsTable c (n + 1) interfaces rows seen
  table-none none = kept (λ i k l m. stands-own i k (block_at c n) (kind_at c n) ∙ ap (own_stands i k) none)

  module _ (j : Interface) (p : ℕ) (own : interface_of (block_at c n) (kind_at c n) ≡ Some (j, p)) where
    -- what it gives at its place
    abbrev pub given : Seen
    given = with_depth (entry rows seen j p) (handed_depth c n)

    stands-at : (i : Interface) (k : ℕ) → stands_at c i k n ≡ (same_side j i && (p == k))
    stands-at i k = stands-own i k (block_at c n) (kind_at c n) ∙ ap (own_stands i k) own

    -- where the table doesn't tell of its place
    pub table-untold : (nat_lt p 64 && nat_lt (number j) interfaces) ≡ false → IsTable c (n + 1) interfaces rows seen
    table-untold e = kept (λ i k l m. stands-at i k ∙ differs i k l m (same_side j i && (p == k)) refl)
      where
        differs : (i : Interface) (k : ℕ) → k < 64 → number i < interfaces → (b : Bool) → (same_side j i && (p == k)) ≡ b
            → (same_side j i && (p == k)) ≡ false
        differs i k l m false h = h
        differs i k l m true h =
            let s = both-true (same_side j i) (p == k) h in
            let place = number-eq p k s.1 in
            let side = same-number j i s.0 in
            absurd (true≢false (sym (true-both (nat_lt p 64) (nat_lt (number j) interfaces) (below-test p 64 (omega (arith, place, l)))
            (below-test (number j) interfaces (omega (arith, side, m)))) ∙ e))

    -- where it has a row
    module _ (low : p < 64) (r : ℕ) (row : row_at rows (number j) ≡ Some r) where
      changed : List Seen
      changed = slice_set seen (64 * r + p) given

      told : (i : Interface) (k : ℕ) → k < 64 → number i < interfaces → (b : Bool) → (same_side j i && (p == k)) ≡ b
          → Shows c (n + 1) i k (entry rows changed i k)
      unfolding changed
      told i k l m true h =
          let s = both-true (same_side j i) (p == k) h in
          let place = number-eq p k s.1 in
          let side = same-number j i s.0 in
          let its : row_at rows (number i) ≡ Some r = ap (row_at rows) (sym side) ∙ row in
          let within : 64 * r + p < length seen = let f = is.fits (number j) r row in omega (arith, f, low) in
          let old : entry rows seen j p ≡ entry rows seen i k =
          entry-low rows seen j p low ∙ (ap (λ z. row_entry seen (row_at rows z) p) side
          ∙ (ap (row_entry seen (row_at rows (number i))) place ∙ sym (entry-low rows seen i k l))) in
          let new : entry rows changed i k ≡ given =
          entry-low rows changed i k l ∙ (ap (λ z. row_entry changed z k) its
          ∙ (ap (λ z. or_nothing (slice_get changed (64 * r + z))) (sym place) ∙ ap or_nothing (get-set seen (64 * r + p) given within))) in
          subst (Shows c (n + 1) i k) (ap (λ s. with_depth s (handed_depth c n)) (sym old) ∙ sym new)
          (shows-own c n i k (entry rows seen i k) (is.each i k l m) (stands-at i k ∙ h))
      told i k l m false h =
          subst (Shows c (n + 1) i k) (entry-low rows seen i k l ∙ (go (row_at rows (number i)) refl ∙ sym (entry-low rows changed i k l)))
          (shows-other c n i k (entry rows seen i k) (is.each i k l m) (stands-at i k ∙ h))
        where
          other : (q : ℕ) → row_at rows (number i) ≡ Some q → 64 * r + p ≢ 64 * q + k
          other q e same =
              let rs : r ≡ q = omega (arith, same, low, l) in
              let ps : p ≡ k = omega (arith, same, low, l) in
              let side = is.apart (number j) (number i) r row (e ∙ ap Some (sym rs)) in
              true≢false (sym (true-both (same_side j i) (p == k) (same-side j i ∙ eq-number (number j) (number i) side) (eq-number p k ps)) ∙ h)

          go : (o : Option ℕ) → row_at rows (number i) ≡ o → row_entry seen (row_at rows (number i)) k ≡ row_entry changed (row_at rows (number i)) k
          go None e = ap (λ z. row_entry seen z k) e ∙ ap (λ z. row_entry changed z k) (sym e)
          go (Some q) e =
              ap (λ z. row_entry seen z k) e ∙ (sym (ap or_nothing (get-other seen (64 * r + p) (64 * q + k) given (other q e)))
              ∙ ap (λ z. row_entry changed z k) (sym e))

      -- a node of an interface
      pub table-told : IsTable c (n + 1) interfaces rows (slice_set seen (64 * r + p) given)
      unfolding changed
      table-told = record {
        len = is.len;
        whole = rw (length-set seen (64 * r + p) given) is.whole;
        fits = λ m q e. rw (length-set seen (64 * r + p) given) (is.fits m q e);
        apart = is.apart;
        each = λ i k l m. told i k l m (same_side j i && (p == k)) refl;
      }

  -- a row for an interface that has none
  module _ (m : ℕ) (within : m < interfaces) (none : row_at rows m ≡ None) (r : ℕ) (start : 64 * r ≡ length seen) where
    pub row-new : row_at (slice_set rows m (Some r)) m ≡ Some r
    row-new = ap joined (get-set rows m (Some r) (omega (arith, within, is.len)))

    row-other : (l : ℕ) → m ≢ l → row_at (slice_set rows m (Some r)) l ≡ row_at rows l
    row-other l d = ap joined (get-other rows m l (Some r) d)

    -- a row of the longer table
    row-cases : (l q : ℕ) → row_at (slice_set rows m (Some r)) l ≡ Some q → ((m ≡ l) × (r ≡ q)) ⊎ ((m ≢ l) × (row_at rows l ≡ Some q))
    row-cases l q e = go (m == l) refl
      where
        go : (b : Bool) → (m == l) ≡ b → ((m ≡ l) × (r ≡ q)) ⊎ ((m ≢ l) × (row_at rows l ≡ Some q))
        go true h =
            let same = number-eq m l h in
            let f : Some r ≡ Some q = sym row-new ∙ (ap (row_at (slice_set rows m (Some r))) same ∙ e) in
            inl (same, cc)
        go false h = let d = number-differs m l h in inr (d, sym (row-other l d) ∙ e)

    abbrev longer : List Seen
    longer = seen ++ replicate 64 Nothing

    long : length longer ≡ length seen + 64
    long = length-append seen (replicate 64 Nothing) ∙ ap (λ z. length seen + z) (length-replicate 64 Nothing)

    -- it tells what it told
    same-entry : (i : Interface) (k : ℕ) → k < 64 → entry rows seen i k ≡ entry (slice_set rows m (Some r)) longer i k
    same-entry i k l = entry-low rows seen i k l ∙ (go (m == number i) refl ∙ sym (entry-low (slice_set rows m (Some r)) longer i k l))
      where
        blank : slice_get longer (64 * r + k) ≡ Some Nothing
        blank = ap (λ z. slice_get longer (z + k)) start ∙ (get-after seen (replicate 64 Nothing) k ∙ get-same 64 Nothing k l)

        old : (o : Option ℕ) → row_at rows (number i) ≡ o → row_entry seen o k ≡ row_entry longer o k
        old None e = refl
        old (Some q) e =
            let low : 64 * q + k < length seen = let f = is.fits (number i) q e in omega (arith, f, l) in
            ap or_nothing (sym (get-before seen (replicate 64 Nothing) (64 * q + k) low))

        go : (b : Bool) → (m == number i) ≡ b → row_entry seen (row_at rows (number i)) k ≡ row_entry longer (row_at (slice_set rows m (Some r)) (number i)) k
        go true h =
            let same = number-eq m (number i) h in
            ap (λ z. row_entry seen z k) (ap (row_at rows) (sym same) ∙ none)
            ∙ sym (ap (λ z. row_entry longer z k) (ap (row_at (slice_set rows m (Some r))) (sym same) ∙ row-new) ∙ ap or_nothing blank)
        go false h = old (row_at rows (number i)) refl ∙ ap (λ z. row_entry longer z k) (sym (row-other (number i) (number-differs m (number i) h)))

    pub table-row : IsTable c n interfaces (slice_set rows m (Some r)) longer
    table-row = record {
      len = length-set rows m (Some r) ∙ is.len;
      whole = let w = is.whole in omega (arith, long, start);
      fits = λ l q e. elim (row-cases l q e) [
        | inl s ↦ let t = s.1 in omega (arith, long, start, t)
        | inr s ↦ let f = is.fits l q s.1 in omega (arith, long, f)
      ];
      apart = λ l o q d e. elim (row-cases l q d) [
        | inl s ↦ elim (row-cases o q e) [
          | inl t ↦ sym s.0 ∙ t.0
          | inr t ↦ absurd (let f = is.fits o q t.1 in let g = s.1 in omega (arith, start, f, g))
        ]
        | inr s ↦ elim (row-cases o q e) [
          | inl t ↦ absurd (let f = is.fits l q s.1 in let g = t.1 in omega (arith, start, f, g))
          | inr t ↦ is.apart l o q s.1 t.1
        ]
      ];
      each = λ i k l o. subst (Shows c n i k) (same-entry i k l) (is.each i k l o);
    }
