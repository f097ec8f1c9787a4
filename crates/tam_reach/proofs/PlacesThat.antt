-- The places of the vertices that pass a test, and what is kept of other places.
use Rattle.std.proofs.Common.{◌≡◌, ℕ, zero, suc, ◌+◌, ◌<◌, ◌≤◌, Bool, true, false, ◌&&◌, ◌||◌, ◌==◌, nat_lt, List, [], ◌∷◌, ◌++◌, map, filter, drop}
use Rattle.std.proofs.Common.{get_or, length, slice_get, refl, sym, ap, ap₂, subst, ◌∙◌, arith, tests, inl, inr, ◌⊎◌}
use Rattle.std.proofs.lemmas.List.{append-nil}
use Rattle.std.proofs.lemmas.List.Elements.{filter-append}
use Rattle.tam_word.specs.Lists.{below, has}
use Rattle.tam_word.proofs.Tests.{below-test, number-eq}
use Rattle.tam_word.proofs.Members.{In, in-below}
use Rattle.tam_graph.specs.Edges.{Edges, reaches}
use Rattle.tam_sets.specs.Sets.{places_where, with_place, met}
use Rattle.tam_sets.specs.BitsBack.{all-places, where-filter}
use Rattle.tam_sets.proofs.PlacesWhere.{places-same, has-where, has-beyond, where-none}
use Rattle.tam_split.specs.declared.vertex.Vertex.{Vertex}
use Rattle.tam_split.specs.Blocks.{BlockGraph, or_vertex, places, dependences, demands}
use Rattle.tam_reach.specs.Reached.{places_that}
use Rattle.tam_reach.proofs.Spread.{reaching, reached, map-twice, map-below}

-- ---- one vertex after another

-- among the first k vertices
abbrev pub places_up_to : (Vertex → Bool) → List Vertex → ℕ → List ℕ
places_up_to test vs k = places_where (λ x. nat_lt x k && test (or_vertex (slice_get vs x)))

-- none yet
pub up_to-none : (test : Vertex → Bool) (vs : List Vertex) → [] ≡ places_up_to test vs 0
up_to-none test vs = sym (where-none (λ x. nat_lt x 0 && test (or_vertex (slice_get vs x))) (λ x l. none x))
  where
    none : (x : ℕ) → (nat_lt x 0 && test (or_vertex (slice_get vs x))) ≡ false
    none x = let e : nat_lt x 0 ≡ false = grind (arith, tests) in rw e refl

-- the vertex at a place
vertex-there : (vs : List Vertex) (k : ℕ) (d : Vertex) → k < length vs → or_vertex (slice_get vs k) ≡ get_or vs k d
vertex-there [] k d h = absurd (omega arith)
vertex-there (v ∷ vs) zero d h = refl
vertex-there (v ∷ vs) (suc k) d h = vertex-there vs k d (omega arith)

-- a number below the next is below this one, or is it
next-below : (x k : ℕ) → nat_lt x (k + 1) ≡ (nat_lt x k || (x == k))
next-below x k = grind (arith, tests)

-- a vertex that passes is one more
pub up_to-more : (test : Vertex → Bool) (vs : List Vertex) (k : ℕ) (d : Vertex) → k < length vs → test (get_or vs k d) ≡ true
    → with_place k (places_up_to test vs k) ≡ places_up_to test vs (k + 1)
up_to-more test vs k d h p =
    places-same (λ x. has (places_up_to test vs k) x || (x == k)) (λ x. nat_lt x (k + 1) && test (or_vertex (slice_get vs x)))
    (λ x l. rw (has-where (λ x. nat_lt x k && test (or_vertex (slice_get vs x))) x l, next-below x k) (each x (x == k) refl (nat_lt x k)))
  where
    passes : test (or_vertex (slice_get vs k)) ≡ true
    passes = ap test (vertex-there vs k d h) ∙ p

    each : (x : ℕ) (t : Bool) → (x == k) ≡ t → (s : Bool) → ((s && test (or_vertex (slice_get vs x))) || (x == k)) ≡
        ((s || (x == k)) && test (or_vertex (slice_get vs x)))
    each x true e s =
        let q : test (or_vertex (slice_get vs x)) ≡ true = subst (λ y. test (or_vertex (slice_get vs y)) ≡ true) (sym (number-eq x k e)) passes in
        rw (e, q) (both s)
      where
        both : (b : Bool) → ((b && true) || true) ≡ ((b || true) && true)
        both true = refl
        both false = refl
    each x false e s = rw e (both s (test (or_vertex (slice_get vs x))))
      where
        both : (b c : Bool) → ((b && c) || false) ≡ ((b || false) && c)
        both true true = refl
        both true false = refl
        both false c = refl

-- another adds none
pub up_to-same : (test : Vertex → Bool) (vs : List Vertex) (k : ℕ) (d : Vertex) → k < length vs → test (get_or vs k d) ≡ false → places_up_to test vs k
    ≡ places_up_to test vs (k + 1)
up_to-same test vs k d h p =
    places-same (λ x. nat_lt x k && test (or_vertex (slice_get vs x))) (λ x. nat_lt x (k + 1) && test (or_vertex (slice_get vs x)))
    (λ x l. rw (next-below x k) (each x (x == k) refl (nat_lt x k)))
  where
    fails : test (or_vertex (slice_get vs k)) ≡ false
    fails = ap test (vertex-there vs k d h) ∙ p

    each : (x : ℕ) (t : Bool) → (x == k) ≡ t → (s : Bool) → (s && test (or_vertex (slice_get vs x))) ≡ ((s || (x == k)) && test (or_vertex (slice_get vs x)))
    each x true e s =
        let q : test (or_vertex (slice_get vs x)) ≡ false = subst (λ y. test (or_vertex (slice_get vs y)) ≡ false) (sym (number-eq x k e)) fails in
        rw (e, q) (both s)
      where
        both : (b : Bool) → (b && false) ≡ ((b || true) && false)
        both true = refl
        both false = refl
    each x false e s = rw e (both s (test (or_vertex (slice_get vs x))))
      where
        both : (b c : Bool) → (b && c) ≡ ((b || false) && c)
        both true c = refl
        both false c = refl

-- ---- what is kept

-- a filter of a filter
filter-twice : (f g : ℕ → Bool) (xs : List ℕ) → filter f (filter g xs) ≡ filter (λ x. f x && g x) xs
filter-twice f g [] = refl
filter-twice f g (x ∷ xs) = go (g x) refl (f x) refl (filter-twice f g xs)
  where
    go : (s : Bool) → g x ≡ s → (t : Bool) → f x ≡ t → filter f (filter g xs) ≡ filter (λ y. f y && g y) xs → filter f (filter g (x ∷ xs)) ≡ filter
        (λ y. f y && g y) (x ∷ xs)
    go true p true q i = rw (p, q) (ap (λ ys. x ∷ ys) i)
    go true p false q i = rw (p, q) i
    go false p true q i = rw (p, q) i
    go false p false q i = rw (p, q) i

-- tests that agree below n keep the same numbers below n, and a test that fails from n on keeps no others
filter-within : (f g : ℕ → Bool) (n : ℕ) → ((x : ℕ) → x < n → f x ≡ g x) → ((x : ℕ) → n ≤ x → g x ≡ false) → (m : ℕ) → n ≤ m → filter f (below n)
    ≡ filter g (below m)
filter-within f g n same none zero h = ap (filter f) (ap below (let e : n ≡ 0 = omega arith in e))
filter-within f g n same none (suc m) h = go (cases n m) (filter-within f g n same none m)
  where
    cases : (a b : ℕ) → (a ≤ b) ⊎ (b < a)
    cases a b = grind arith

    agree : (xs : List ℕ) → ((x : ℕ) → In x xs → f x ≡ g x) → filter f xs ≡ filter g xs
    agree [] k = refl
    agree (x ∷ xs) k = at (g x) refl (k x (inl refl)) (agree xs (λ y i. k y (inr i)))
      where
        at : (t : Bool) → g x ≡ t → f x ≡ g x → filter f xs ≡ filter g xs → filter f (x ∷ xs) ≡ filter g (x ∷ xs)
        at true p q i = rw (q, p) (ap (λ ys. x ∷ ys) i)
        at false p q i = rw (q, p) i

    go : (n ≤ m) ⊎ (m < n) → (n ≤ m → filter f (below n) ≡ filter g (below m)) → filter f (below n) ≡ filter g (below (suc m))
    go (inl l) i =
        i l ∙ (sym (append-nil (filter g (below m))) ∙ (ap (λ ys. filter g (below m) ++ ys) (sym last) ∙ sym (filter-append g (below m) (m ∷ []))))
      where
        last : filter g (m ∷ []) ≡ []
        last = rw (none m l) refl
    go (inr l) i = let e : n ≡ suc m = omega arith in agree (below n) (λ x j. same x (in-below x n j)) ∙ ap (λ k. filter g (below k)) e

-- a number is below another or isn't
below-or_not : (x n : ℕ) → (x < n) ⊎ (x < n → ⊥)
below-or_not x n = go (cases x n)
  where
    cases : (a b : ℕ) → (a < b) ⊎ (b ≤ a)
    cases a b = grind arith

    go : (x < n) ⊎ (n ≤ x) → (x < n) ⊎ (x < n → ⊥)
    go (inl l) = inl l
    go (inr l) = inr (λ m. absurd (omega arith))

-- what is kept of the places that pass f, where those of the vertices that pass a test are kept
kept-places : (f : ℕ → Bool) (test : Vertex → Bool) (vs : List Vertex) → length vs ≤ 512
    → met (places_where f) (places_that test vs) ≡ filter f (filter (λ x. test (or_vertex (slice_get vs x))) (below (length vs)))
kept-places f test vs few =
    let all = all-places in
    let room : length vs ≤ all.count = let e = all.is in omega arith in
    where-filter kept all.count all.numbers
    ∙ sym (filter-twice f (λ x. test (or_vertex (slice_get vs x))) (below (length vs))
    ∙ filter-within (λ x. f x && test (or_vertex (slice_get vs x))) kept (length vs) (λ x l. sym (inside x l)) beyond all.count room)
  where
    listed : ℕ → Bool
    listed x = nat_lt x (length vs) && test (or_vertex (slice_get vs x))

    kept : ℕ → Bool
    kept x = has (places_where f) x && has (places_that test vs) x

    inside : (x : ℕ) → x < length vs → (has (places_where f) x && has (places_that test vs) x) ≡ (f x && test (or_vertex (slice_get vs x)))
    inside x l =
        rw (
          has-where f x (omega arith),
          has-where (λ x. nat_lt x (length vs) && test (or_vertex (slice_get vs x))) x (omega arith),
          below-test x
              (length vs) l,
        ) refl

    beyond : (x : ℕ) → length vs ≤ x → (has (places_where f) x && has (places_that test vs) x) ≡ false
    beyond x l = rw (none (cases x)) (neither (has (places_where f) x))
      where
        cases : (y : ℕ) → (y < 512) ⊎ (y < 512 → ⊥)
        cases y = below-or_not y 512

        none : (x < 512) ⊎ (x < 512 → ⊥) → has (places_that test vs) x ≡ false
        none (inl m) =
            let e : nat_lt x (length vs) ≡ false = grind (arith, tests) in
            has-where (λ x. nat_lt x (length vs) && test (or_vertex (slice_get vs x))) x m ∙ rw e refl
        none (inr n) = has-beyond (λ x. nat_lt x (length vs) && test (or_vertex (slice_get vs x))) x n

        neither : (b : Bool) → (b && false) ≡ false
        neither true = refl
        neither false = refl

-- the dependences of all places
pub kept-dependences : (b : BlockGraph) (sets : List (List ℕ)) → length b.vertices ≤ 512 → sets ≡ map (reaching b.edges) (below (length b.vertices))
    → map (λ set. met set (places_that (λ v. v.inlet) b.vertices)) sets ≡ map (dependences b) (places b)
kept-dependences b sets few e =
    ap (map (λ set. met set (places_that (λ v. v.inlet) b.vertices))) e
    ∙ (map-twice (λ set. met set (places_that (λ v. v.inlet) b.vertices)) (reaching b.edges) (below (length b.vertices))
    ∙ map-below (λ y. met (reaching b.edges y) (places_that (λ v. v.inlet) b.vertices)) (dependences b) (length b.vertices)
    (λ y l. kept-places (λ x. reaches b.edges x y) (λ v. v.inlet) b.vertices few))

-- and their demands
pub kept-demands : (b : BlockGraph) (sets : List (List ℕ)) → length b.vertices ≤ 512 → sets ≡ map (reached b.edges) (below (length b.vertices))
    → map (λ set. met set (places_that (λ v. v.outlet) b.vertices)) sets ≡ map (demands b) (places b)
kept-demands b sets few e =
    ap (map (λ set. met set (places_that (λ v. v.outlet) b.vertices))) e
    ∙ (map-twice (λ set. met set (places_that (λ v. v.outlet) b.vertices)) (reached b.edges) (below (length b.vertices))
    ∙ map-below (λ x. met (reached b.edges x) (places_that (λ v. v.outlet) b.vertices)) (demands b) (length b.vertices)
    (λ x l. kept-places (λ y. reaches b.edges x y) (λ v. v.outlet) b.vertices few))

-- what `depends` gives in the end
pub depends-end : (b : BlockGraph) (vs : List Vertex) (es : Edges) (k : ℕ) (sets news : List (List ℕ)) (ins : List ℕ) → vs ≡ b.vertices → es ≡ b.edges
    → length b.vertices ≤ 512 → k ≡ 0 → sets ≡ map (reaching (drop k es)) (below (length vs)) → ins ≡ places_that (λ v. v.inlet) vs
    → news ≡ map (λ set. met set ins) sets → news ≡ map (dependences b) (places b)
depends-end b vs es k sets news ins p q few z before i after =
    let first : drop k es ≡ b.edges = ap (λ n. drop n es) z ∙ q in
    let all : sets ≡ map (reaching b.edges) (below (length b.vertices)) = before ∙ ap₂ (λ (fs : Edges) (ws : List Vertex). map (reaching fs)
    (below (length ws))) first p in
    let kept : ins ≡ places_that (λ v. v.inlet) b.vertices = i ∙ ap (λ (ws : List Vertex). places_that (λ v. v.inlet) ws) p in
    after ∙ (ap (λ (os : List ℕ). map (λ (set : List ℕ). met set os) sets) kept ∙ kept-dependences b sets few all)

-- and `demands`
pub demands-end : (b : BlockGraph) (vs : List Vertex) (es : Edges) (k : ℕ) (sets news : List (List ℕ)) (outs : List ℕ) → vs ≡ b.vertices → es ≡ b.edges
    → length b.vertices ≤ 512 → k ≡ 0 → sets ≡ map (reached (drop k es)) (below (length vs)) → outs ≡ places_that (λ v. v.outlet) vs
    → news ≡ map (λ set. met set outs) sets → news ≡ map (demands b) (places b)
demands-end b vs es k sets news outs p q few z before i after =
    let first : drop k es ≡ b.edges = ap (λ n. drop n es) z ∙ q in
    let all : sets ≡ map (reached b.edges) (below (length b.vertices)) = before ∙ ap₂ (λ (fs : Edges) (ws : List Vertex). map (reached fs)
    (below (length ws))) first p in
    let kept : outs ≡ places_that (λ v. v.outlet) b.vertices = i ∙ ap (λ (ws : List Vertex). places_that (λ v. v.outlet) ws) p in
    after ∙ (ap (λ (os : List ℕ). map (λ (set : List ℕ). met set os) sets) kept ∙ kept-demands b sets few all)
