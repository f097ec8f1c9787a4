-- Lists and sets that grow by one number, and what stands at a place of a list that has an entry for each number.
use Rattle.std.proofs.Common.{◌≡◌, ℕ, zero, suc, ◌+◌, ◌<◌, ◌≤◌, List, [], ◌∷◌, ◌++◌, Bool, true, false, ◌&&◌, refl, sym, ap, ap₂, subst, inl, inr}
use Rattle.std.proofs.Common.{arith, ◌∙◌, true≢false, ◌==◌, ◌||◌}
use Rattle.std.proofs.Common.{length, map, filter, get_or, take, slice_get}
use Rattle.std.proofs.lemmas.List.{map-append, append-nil, get_or-map, ext_get_or, take_more}
use Rattle.std.proofs.lemmas.List.Elements.{filter-append}
use Rattle.std.proofs.lemmas.Option.{get_or_from_slice_get, slice_get-get_or}
use Rattle.std.specs.List.{list_any}
use Rattle.tam_word.specs.Lists.{below, all_of, any_of, has}
use Rattle.tam_word.proofs.Tests.{number-eq, eq-number}
use Rattle.tam_word.proofs.Members.{In, in-below, in-has, in-any, get-in}
use Rattle.tam_graph.specs.Edges.{Edges, reaches}
use Rattle.tam_split.specs.declared.vertex.Vertex.{Vertex}
use Rattle.tam_split.specs.Blocks.{BlockGraph, vertex_at, or_vertex}
use Rattle.tam_split.specs.Partitions.{Parts, class_of, class_at}
use Rattle.tam_split.proofs.Partitioning.{length-below, length-map, below-get}
use Rattle.tam_split.proofs.Classes.{class-stands, stands-in}
use Rattle.tam_sets.specs.Sets.{places_where, with_place, met}
use Rattle.tam_sets.proofs.PlacesWhere.{places-same, has-where}
use Rattle.tam_quotient.specs.Tables.{set_at}
use Rattle.tam_quotient.specs.Spreads.{renamed, grown}
use Rattle.tam_quotient.proofs.Places.{same-test}
use Rattle.tam_quotient.proofs.Spreading.{row-grows, row-stays}

-- ---- one number more

-- the numbers below n + 1 are those below n, and n
pub below-more : (n : ℕ) → below (n + 1) ≡ below n ++ n ∷ []
below-more n = let e : n + 1 ≡ suc n = omega arith in ap below e

-- all of them pass where those before do, and the last
pub all-more : (test : ℕ → Bool) (xs : List ℕ) (n : ℕ) → all_of test (xs ++ n ∷ []) ≡ (all_of test xs && test n)
all-more test [] n = last (test n) refl
  where
    last : (t : Bool) → test n ≡ t → all_of test (n ∷ []) ≡ test n
    last true p = rw (all_of, p) refl
    last false p = rw (all_of, p) refl
all-more test (x ∷ xs) n = step (test x) refl (all-more test xs n)
  where
    step : (t : Bool) → test x ≡ t → all_of test (xs ++ n ∷ []) ≡ (all_of test xs && test n) → all_of test (x ∷ xs ++ n ∷ []) ≡ (all_of test (x ∷ xs) && test n)
    step true p i = rw (all_of, p) i
    step false p i = rw (all_of, p) refl

-- what all of them become is what those below n become, and n
pub map-more : {X : Type 0} (f : ℕ → X) (n : ℕ) → map f (below (n + 1)) ≡ map f (below n) ++ f n ∷ []
map-more f n = ap (map f) (below-more n) ∙ map-append f (below n) (n ∷ [])

-- there is an entry for each number
pub length-table : {X : Type 0} (f : ℕ → X) (n : ℕ) → length (map f (below n)) ≡ n
length-table f n = length-map f (below n) ∙ length-below n

-- the number below n at place k is k
pub get-number : (n k : ℕ) → k < n → get_or (below n) k 0 ≡ k
get-number n k h = get_or_from_slice_get (below n) k k 0 (below-get n k h)

-- and that of k stands at place k
pub get-table : {X : Type 0} (f : ℕ → X) (n k : ℕ) (d : X) → k < n → get_or (map f (below n)) k d ≡ f k
get-table f n k d h =
    let l : k < length (below n) = subst (λ m. k < m) (sym (length-below n)) h in
    get_or-map f (below n) k 0 d l ∙ ap f (get-number n k h)

-- what functions that agree on the numbers below n make of them
pub map-below : {X : Type 0} (f g : ℕ → X) (n : ℕ) → ((k : ℕ) → k < n → f k ≡ g k) → map f (below n) ≡ map g (below n)
map-below {X} f g n h = go (below n) (λ k i. h k (in-below k n i))
  where
    go : (ks : List ℕ) → ((k : ℕ) → In k ks → f k ≡ g k) → map f ks ≡ map g ks
    go [] i = refl
    go (k ∷ ks) i = ap₂ (λ (x : X) xs. x ∷ xs) (i k (inl refl)) (go ks (λ j m. i j (inr m)))

-- a list with the right entries is the table
pub table-is : (sets : List (List ℕ)) (f : ℕ → List ℕ) (n : ℕ) → length sets ≡ n → ((k : ℕ) → k < n → set_at sets k ≡ f k) → sets ≡ map f (below n)
table-is sets f n e h = ext_get_or [] sets (map f (below n)) (e ∙ sym (length-table f n))
    (λ k l. let m : k < n = omega (arith, l, e) in h k m ∙ sym (get-table f n k [] m))

-- where the pair at a place passes, any does
pub any-at : (test : ℕ × ℕ → Bool) (es : Edges) (i : ℕ) → i < length es → test (get_or es i (0, 0)) ≡ true → any_of test es ≡ true
any-at test es i h k = in-any test es (get_or es i (0, 0)) (get-in es i (get_or es i (0, 0)) (slice_get-get_or es i (0, 0) h)) k

-- and where none at a place passes, none does
pub none-at : (test : ℕ × ℕ → Bool) (es : Edges) → ((i : ℕ) → i < length es → test (get_or es i (0, 0)) ≡ false) → any_of test es ≡ false
none-at test [] h = refl
none-at test (e ∷ es) h = rw (any_of, h 0 (omega arith)) (none-at test es (λ i l. h (suc i) (omega arith)))

-- ---- classes

-- the tests of a list's elements agree
pub list_any-has : (xs : List ℕ) (x : ℕ) → list_any (λ y. y == x) xs ≡ has xs x
list_any-has [] x = refl
list_any-has (y ∷ ys) x = go (y == x) refl (list_any-has ys x)
  where
    go : (t : Bool) → (y == x) ≡ t → list_any (λ z. z == x) ys ≡ has ys x → list_any (λ z. z == x) (y ∷ ys) ≡ has (y ∷ ys) x
    go true p i = rw (any_of, p) refl
    go false p i = rw (any_of, p) i

-- the first class that has the place is its class
pub class-found : (ps : Parts) (k x : ℕ) → ((j : ℕ) → j < k → has (class_at ps j) x ≡ false) → has (class_at ps k) x ≡ true → class_of ps x ≡ k
class-found [] k x none h = absurd (true≢false (sym h))
class-found (p ∷ ps) zero x none h = rw (class_of, h) refl
class-found (p ∷ ps) (suc k) x none h =
    let e : has p x ≡ false = none 0 (omega arith) in
    rw (class_of, e) (ap suc (class-found ps k x (λ j l. none (suc j) (omega arith)) h))

-- and a place that stands in a class isn't missed
pub class-missed : (ps : Parts) (x : ℕ) → class_of ps x < length ps → ((j : ℕ) → j < length ps → has (class_at ps j) x ≡ false) → ⊥
class-missed ps x h none =
    true≢false (sym (in-has (class_at ps (class_of ps x)) x (stands-in ps (class_of ps x) x (class-stands ps x h))) ∙ none (class_of ps x) h)

-- ---- sets

-- a vertex that isn't there is no inlet
pub none-inlet : (b : BlockGraph) (x : ℕ) → length b.vertices ≤ x → (vertex_at b x).inlet ≡ false
none-inlet b x h = go b.vertices x h
  where
    go : (vs : List Vertex) (j : ℕ) → length vs ≤ j → (or_vertex (slice_get vs j)).inlet ≡ false
    go [] j h = refl
    go (v ∷ vs) zero h = absurd (omega arith)
    go (v ∷ vs) (suc j) h = go vs j (omega arith)

-- a number alone is what it reaches by no edge
pub alone-reaches : (k : ℕ) → with_place k [] ≡ places_where (reaches [] k)
alone-reaches k = places-same _ _ (λ x l. same-test (x == k) (k == x) (λ h. eq-number k x (sym (number-eq x k h))) (λ h. eq-number x k (sym (number-eq k x h))))

-- the first n + 1 are the first n and one more
pub take-next : (xs : List ℕ) (n x : ℕ) → n < length xs → x ≡ get_or xs n x → take (n + 1) xs ≡ take n xs ++ x ∷ []
take-next xs n x h e = take_more xs n x h ∙ ap (λ y. take n xs ++ y ∷ []) (sym e)

-- a list with one number more has that number too
pub has-more : (xs : List ℕ) (y x : ℕ) → has (xs ++ y ∷ []) x ≡ (has xs x || (y == x))
has-more [] y x = last (y == x) refl
  where
    last : (t : Bool) → (y == x) ≡ t → has (y ∷ []) x ≡ (y == x)
    last true p = rw (any_of, p) refl
    last false p = rw (any_of, p) refl
has-more (z ∷ xs) y x = step (z == x) refl (has-more xs y x)
  where
    step : (t : Bool) → (z == x) ≡ t → has (xs ++ y ∷ []) x ≡ (has xs x || (y == x)) → has (z ∷ xs ++ y ∷ []) x ≡ (has (z ∷ xs) x || (y == x))
    step true p i = rw (any_of, p) refl
    step false p i = rw (any_of, p) i

-- two numbers are the same whichever is named first
same-turned : (x y : ℕ) → (x == y) ≡ (y == x)
same-turned x y = same-test (x == y) (y == x) (λ h. eq-number y x (sym (number-eq x y h))) (λ h. eq-number x y (sym (number-eq y x h)))

-- one of the places that passes a further test is put in
pub places-put : (xs : List ℕ) (y : ℕ) (test : ℕ → Bool) → test y ≡ true
    → with_place y (places_where (λ x. has xs x && test x)) ≡ places_where (λ x. has (xs ++ y ∷ []) x && test x)
places-put xs y test h = places-same _ _ (λ x l. rw (has-where (λ z. has xs z && test z) x l, has-more xs y x, same-turned y x) (go x (x == y) refl (has xs x)))
  where
    go : (x : ℕ) (t : Bool) → (x == y) ≡ t → (s : Bool) → ((s && test x) || (x == y)) ≡ ((s || (x == y)) && test x)
    go x true p true = let f : test x ≡ true = ap test (number-eq x y p) ∙ h in rw (p, f) refl
    go x true p false = let f : test x ≡ true = ap test (number-eq x y p) ∙ h in rw (p, f) refl
    go x false p true = rw p (last (test x))
      where
        last : (t : Bool) → (t || false) ≡ t
        last true = refl
        last false = refl
    go x false p false = rw p refl

-- and one that doesn't pass is left out
pub places-skip : (xs : List ℕ) (y : ℕ) (test : ℕ → Bool) → test y ≡ false
    → places_where (λ x. has xs x && test x) ≡ places_where (λ x. has (xs ++ y ∷ []) x && test x)
places-skip xs y test h = places-same _ _ (λ x l. rw (has-more xs y x, same-turned y x) (go x (x == y) refl (has xs x)))
  where
    go : (x : ℕ) (t : Bool) → (x == y) ≡ t → (s : Bool) → (s && test x) ≡ ((s || (x == y)) && test x)
    go x true p true = refl
    go x true p false = let f : test x ≡ false = ap test (number-eq x y p) ∙ h in rw (p, f) refl
    go x false p true = refl
    go x false p false = rw p refl

-- one place more of a set
pub places-more : (xs : List ℕ) (y : ℕ) → with_place y (places_where (has xs)) ≡ places_where (has (xs ++ y ∷ []))
places-more xs y = places-same _ _ (λ x l. rw (has-where (has xs) x l, has-more xs y x, same-turned y x) refl)

-- one condition more: the inlets that meet it too
pub met-more : (inlet : ℕ → Bool) (test : ℕ → ℕ → Bool) (os : List ℕ) (o : ℕ) (xs : List ℕ) → ((i : ℕ) → i < 512 → test i o ≡ has xs i)
    → met (places_where (λ i. inlet i && all_of (test i) os)) xs ≡ places_where (λ i. inlet i && all_of (test i) (os ++ o ∷ []))
met-more inlet test os o xs h = places-same _ _ (λ i l. rw (has-where (λ j. inlet j && all_of (test j) os) i l, all-more (test i) os o, h i l)
    (regroup (inlet i) (all_of (test i) os) (has xs i)))
  where
    regroup : (s t u : Bool) → ((s && t) && u) ≡ (s && (t && u))
    regroup true t u = refl
    regroup false t u = refl

-- and where it holds anyway, they are the same
pub met-same : (inlet : ℕ → Bool) (test : ℕ → ℕ → Bool) (os : List ℕ) (o : ℕ) → ((i : ℕ) → test i o ≡ true)
    → places_where (λ i. inlet i && all_of (test i) os) ≡ places_where (λ i. inlet i && all_of (test i) (os ++ o ∷ []))
met-same inlet test os o h = places-same _ _ (λ i l. rw (all-more (test i) os o, h i) (ap (λ t. inlet i && t) (sym (same (all_of (test i) os)))))
  where
    same : (t : Bool) → (t && true) ≡ t
    same true = refl
    same false = refl

-- a place that passes is gathered
pub filter-put : (test : ℕ → Bool) (n : ℕ) → test n ≡ true → filter test (below (n + 1)) ≡ filter test (below n) ++ n ∷ []
filter-put test n h = ap (filter test) (below-more n) ∙ (filter-append test (below n) (n ∷ []) ∙ ap (λ xs. filter test (below n) ++ xs) (rw h refl))

-- and another isn't
pub filter-skip : (test : ℕ → Bool) (n : ℕ) → test n ≡ false → filter test (below (n + 1)) ≡ filter test (below n)
filter-skip test n h =
    ap (filter test) (below-more n) ∙ (filter-append test (below n) (n ∷ [])
    ∙ (ap (λ xs. filter test (below n) ++ xs) (rw h refl) ∙ append-nil (filter test (below n))))

-- ---- edges one by one

-- the edges with one more, renamed
pub renamed-more : (names : List ℕ) (es : Edges) (i : ℕ) → i < length es
    → renamed names (take (i + 1) es) ≡ renamed names (take i es) ++ (get_or names (get_or es i (0, 0)).0 0, get_or names (get_or es i (0, 0)).1 0) ∷ []
renamed-more names es i h = ap (renamed names) (take_more es i (0, 0) h) ∙ map-append _ (take i es) (get_or es i (0, 0) ∷ [])

-- a set grows by one edge to what is reached with it
pub grown-more : (es : Edges) (a c k : ℕ) (further set : List ℕ) → a < 512 → set ≡ places_where (reaches es k) → further ≡ places_where (reaches es c)
    → grown a further set ≡ places_where (reaches (es ++ (a, c) ∷ []) k)
grown-more es a c k further set l p q = go (reaches es k a) refl
  where
    had : has set a ≡ reaches es k a
    had = ap (λ xs. has xs a) p ∙ has-where (reaches es k) a l

    go : (t : Bool) → reaches es k a ≡ t → grown a further set ≡ places_where (reaches (es ++ (a, c) ∷ []) k)
    go true e = rw (grown, had ∙ e, p, q) (row-grows es a c k e)
    go false e = rw (grown, had ∙ e, p) (row-stays es a c k e)
