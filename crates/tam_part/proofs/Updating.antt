-- The ways that are brought up to date at a merge are those of the merged classes.
use Rattle.std.proofs.Common.{◌≡◌, ℕ, ◌<◌, ◌≤◌, List, [], ◌∷◌, Bool, true, false, ◌&&◌, ◌||◌, refl, sym, subst, ap, ap₂, ◌∙◌, length, nat_lt, arith}
use Rattle.tam_word.specs.Lists.{all_of, has}
use Rattle.tam_word.proofs.Tests.{below-test}
use Rattle.tam_graph.specs.Edges.{reaches}
use Rattle.tam_split.specs.Blocks.{BlockGraph, vertex_at, places}
use Rattle.tam_split.specs.Partitions.{Parts, class_of, merged}
use Rattle.tam_split.proofs.Classes.{IsParts}
use Rattle.tam_sets.specs.Sets.{places_where, met, joined}
use Rattle.tam_sets.proofs.PlacesWhere.{places-same, has-where}
use Rattle.tam_quotient.specs.declared.ways.Ways.{Ways}
use Rattle.tam_quotient.specs.Quotients.{allows}
use Rattle.tam_quotient.proofs.Places.{joined-where, met-where}
use Rattle.tam_split.specs.KeptParts.{AreClasses}
use Rattle.tam_split.proofs.Separation.{new, new-class}
use Rattle.tam_part.specs.Kept.{place_leads, ways_at, AreWays, AreAdded, IsLeast, way_in, both_ways, ways_after}
use Rattle.tam_part.proofs.Leasts.{least-first}
use Rattle.tam_part.proofs.Leading.{joined_leads, leads-merged}

-- ---- lists of places by tests

-- the tests of two are both passed by all where each is
all-and : {X : Type 0} (f g : X → Bool) (xs : List X) → all_of (λ x. f x && g x) xs ≡ (all_of f xs && all_of g xs)
all-and f g [] = refl
all-and f g (x ∷ xs) = go (f x) refl (g x) refl (all-and f g xs)
  where
    go : (s : Bool) → f x ≡ s → (t : Bool) → g x ≡ t → all_of (λ x. f x && g x) xs ≡ (all_of f xs && all_of g xs)
        → all_of (λ x. f x && g x) (x ∷ xs) ≡ (all_of f (x ∷ xs) && all_of g (x ∷ xs))
    go true p true q i = rw (all_of, p, q) i
    go true p false q i = rw (all_of, p, q) (sym (none (all_of f xs)))
      where
        none : (t : Bool) → (t && false) ≡ false
        none true = refl
        none false = refl
    go false p t q i = rw (all_of, p) refl

-- tests that agree are passed by all alike
all-same : {X : Type 0} (f g : X → Bool) → ((x : X) → f x ≡ g x) → (xs : List X) → all_of f xs ≡ all_of g xs
all-same f g h [] = refl
all-same f g h (x ∷ xs) = go (g x) refl (all-same f g h xs)
  where
    go : (t : Bool) → g x ≡ t → all_of f xs ≡ all_of g xs → all_of f (x ∷ xs) ≡ all_of g (x ∷ xs)
    go true p i = rw (all_of, h x ∙ p, p) i
    go false p i = rw (all_of, h x ∙ p, p) refl

-- ---- truth tables

-- what is led to or was, below a bound
ahead-table : (m s t u : Bool) → ((m && s) || ((m && t) || (m && u))) ≡ (m && (s || (true && (t || u))))
ahead-table true s t u = refl
ahead-table false s t u = refl

-- where neither of the two is led to, nothing is new
same-table : (m s w : Bool) → (m && s) ≡ (m && (s || (false && w)))
same-table true true w = refl
same-table true false w = refl
same-table false s w = refl

-- what leads, by the other side
behind-table : (m s t u v : Bool) → v ≡ true → ((m && s) || ((m && t) || (m && u))) ≡ (m && (s || ((t || u) && v)))
behind-table true true t u v h = refl
behind-table true false true u v h = sym h
behind-table true false false true v h = sym h
behind-table true false false false v h = refl
behind-table false s t u v h = refl

-- and where neither leads
behind-same : (m s w v : Bool) → v ≡ false → (m && s) ≡ (m && (s || (w && v)))
behind-same true true w v h = refl
behind-same true false true v h = sym h
behind-same true false false v h = refl
behind-same false s w v h = refl

-- what an outlet asks of an inlet, where it is led to
asks : Bool → Bool → Bool
asks led depends = elim led [ true ↦ depends | false ↦ true ]

asks-table : (p s t u r w : Bool) → w ≡ true → asks (p && (s || (w && (t || u)))) r ≡ (asks (p && s) r && (asks (p && t) r && asks (p && u) r))
unfolding asks
asks-table false s t u r w h = refl
asks-table true true true true true w h = refl
asks-table true true true true false w h = refl
asks-table true true true false true w h = refl
asks-table true true true false false w h = refl
asks-table true true false true true w h = refl
asks-table true true false true false w h = refl
asks-table true true false false true w h = refl
asks-table true true false false false w h = refl
asks-table true false true u true true h = go u
  where
    go : (u : Bool) → true ≡ (true && asks u true)
    go true = refl
    go false = refl
asks-table true false true u false true h = refl
asks-table true false false true true true h = refl
asks-table true false false true false true h = refl
asks-table true false false false r true h = refl
asks-table true false t u r false h = absurd cc

asks-same : (p s v r w : Bool) → w ≡ false → asks (p && (s || (w && v))) r ≡ asks (p && s) r
unfolding asks
asks-same false s v r w h = refl
asks-same true true v r w h = refl
asks-same true false v r false h = refl
asks-same true false v r true h = absurd cc

-- regrouped
and-table : (i s t u : Bool) → ((i && s) && ((i && t) && (i && u))) ≡ (i && (s && (t && u)))
and-table true s t u = refl
and-table false s t u = refl

module _ (b : BlockGraph) (few : length b.vertices ≤ 512) (ps : Parts) (parts : IsParts (length b.vertices) ps) (k l : ℕ) (below : k < l)
    (within : l < length ps)
    (a c : ℕ) (in_k : class_of ps a ≡ k) (in_l : class_of ps c ≡ l) where
  -- what leads from place to place after the merge
  after : (x y : ℕ) → place_leads b (merged ps k l) x y ≡ joined_leads (place_leads b ps) a c x y
  after x y = leads-merged b (length b.vertices) ps parts k l below within a c in_k in_l x y

  -- the ways of both
  both : Ways
  both = both_ways (ways_at b ps a) (ways_at b ps c)

  -- whether the class of a place leads to one of the two
  there : (x : ℕ) → x < length b.vertices → has both.behind x ≡ (place_leads b ps x a || place_leads b ps x c)
  unfolding both
  there x h =
      let low : x < 512 = omega (arith, few, h) in
      let f = λ (y : ℕ). nat_lt y (length b.vertices) && place_leads b ps y a in
      let g = λ (y : ℕ). nat_lt y (length b.vertices) && place_leads b ps y c in
      has-where (λ y. has (places_where f) y || has (places_where g) y) x low
      ∙ (ap₂ (λ s t. s || t) (has-where f x low) (has-where g x low)
      ∙ ap (λ m. (m && place_leads b ps x a) || (m && place_leads b ps x c)) (below-test x (length b.vertices) h))

  -- whether one of the two leads to the class of a place
  back : (x : ℕ) → x < length b.vertices → has both.ahead x ≡ (place_leads b ps a x || place_leads b ps c x)
  unfolding both
  back x h =
      let low : x < 512 = omega (arith, few, h) in
      let f = λ (y : ℕ). nat_lt y (length b.vertices) && place_leads b ps a y in
      let g = λ (y : ℕ). nat_lt y (length b.vertices) && place_leads b ps c y in
      has-where (λ y. has (places_where f) y || has (places_where g) y) x low
      ∙ (ap₂ (λ s t. s || t) (has-where f x low) (has-where g x low)
      ∙ ap (λ m. (m && place_leads b ps a x) || (m && place_leads b ps c x)) (below-test x (length b.vertices) h))

  -- three sets joined
  three : (f g h : ℕ → Bool) → joined (places_where f) (joined (places_where g) (places_where h)) ≡ places_where (λ y. f y || (g y || h y))
  three f g h = ap (λ ys. joined (places_where f) ys) (joined-where g h) ∙ joined-where f (λ y. g y || h y)

  -- three sets met
  three-met : (f g h : ℕ → Bool) → met (places_where f) (met (places_where g) (places_where h)) ≡ places_where (λ y. f y && (g y && h y))
  three-met f g h = ap (λ ys. met (places_where f) ys) (met-where g h) ∙ met-where f (λ y. g y && h y)

  -- what the class of a place leads to
  ahead-after : (x : ℕ) (t : Bool) → (place_leads b ps x a || place_leads b ps x c) ≡ t
      → elim t [ true ↦ joined (ways_at b ps x).ahead both.ahead | false ↦ (ways_at b ps x).ahead ] ≡ (ways_at b (merged ps k l) x).ahead
  unfolding both
  ahead-after x true e =
      three (λ y. nat_lt y (length b.vertices) && place_leads b ps x y) (λ y. nat_lt y (length b.vertices) && place_leads b ps a y)
      (λ y. nat_lt y (length b.vertices) && place_leads b ps c y)
      ∙ places-same _ _ (λ y m. ahead-table (nat_lt y (length b.vertices)) (place_leads b ps x y) (place_leads b ps a y) (place_leads b ps c y)
      ∙ sym (ap (λ z. nat_lt y (length b.vertices) && z) (after x y ∙ ap
      (λ w. place_leads b ps x y || (w && (place_leads b ps a y || place_leads b ps c y))) e)))
  ahead-after x false e = places-same _ _ (λ y m. same-table (nat_lt y (length b.vertices)) (place_leads b ps x y)
      (place_leads b ps a y || place_leads b ps c y)
      ∙ sym (ap (λ z. nat_lt y (length b.vertices) && z) (after x y ∙ ap
      (λ w. place_leads b ps x y || (w && (place_leads b ps a y || place_leads b ps c y))) e)))

  -- what leads to it
  behind-after : (x : ℕ) (t : Bool) → (place_leads b ps a x || place_leads b ps c x) ≡ t
      → elim t [ true ↦ joined (ways_at b ps x).behind both.behind | false ↦ (ways_at b ps x).behind ] ≡ (ways_at b (merged ps k l) x).behind
  unfolding both
  behind-after x true e =
      three (λ y. nat_lt y (length b.vertices) && place_leads b ps y x) (λ y. nat_lt y (length b.vertices) && place_leads b ps y a)
      (λ y. nat_lt y (length b.vertices) && place_leads b ps y c)
      ∙ places-same _ _ (λ y m. behind-table (nat_lt y (length b.vertices)) (place_leads b ps y x) (place_leads b ps y a) (place_leads b ps y c)
      (place_leads b ps a x || place_leads b ps c x) e ∙ sym (ap (λ z. nat_lt y (length b.vertices) && z) (after y x)))
  behind-after x false e = places-same _ _ (λ y m. behind-same (nat_lt y (length b.vertices)) (place_leads b ps y x)
      (place_leads b ps y a || place_leads b ps y c) (place_leads b ps a x || place_leads b ps c x) e
      ∙ sym (ap (λ z. nat_lt y (length b.vertices) && z) (after y x)))

  -- the inlets whose classes lead to it
  entering-after : (x : ℕ) (t : Bool) → (place_leads b ps a x || place_leads b ps c x) ≡ t
      → elim t [ true ↦ joined (ways_at b ps x).entering both.entering | false ↦ (ways_at b ps x).entering ] ≡ (ways_at b (merged ps k l) x).entering
  unfolding both
  entering-after x true e =
      three (λ i. (vertex_at b i).inlet && place_leads b ps i x) (λ i. (vertex_at b i).inlet && place_leads b ps i a)
      (λ i. (vertex_at b i).inlet && place_leads b ps i c)
      ∙ places-same _ _ (λ i m. behind-table (vertex_at b i).inlet (place_leads b ps i x) (place_leads b ps i a) (place_leads b ps i c)
      (place_leads b ps a x || place_leads b ps c x) e ∙ sym (ap (λ z. (vertex_at b i).inlet && z) (after i x)))
  entering-after x false e = places-same _ _ (λ i m. behind-same (vertex_at b i).inlet (place_leads b ps i x)
      (place_leads b ps i a || place_leads b ps i c) (place_leads b ps a x || place_leads b ps c x) e
      ∙ sym (ap (λ z. (vertex_at b i).inlet && z) (after i x)))

  -- one outlet allows what it allowed, and the two
  allows-after : (x i o : ℕ) → (place_leads b ps x a || place_leads b ps x c) ≡ true
      → allows b (merged ps k l) (class_of (merged ps k l) x) i o
      ≡ (allows b ps (class_of ps x) i o && (allows b ps (class_of ps a) i o && allows b ps (class_of ps c) i o))
  unfolding asks
  allows-after x i o e =
      ap (λ z. asks ((vertex_at b o).outlet && z) (reaches b.edges i o)) (after x o)
      ∙ asks-table (vertex_at b o).outlet (place_leads b ps x o) (place_leads b ps a o) (place_leads b ps c o) (reaches b.edges i o)
      (place_leads b ps x a || place_leads b ps x c) e

  -- or what it allowed
  allows-same : (x i o : ℕ) → (place_leads b ps x a || place_leads b ps x c) ≡ false
      → allows b (merged ps k l) (class_of (merged ps k l) x) i o ≡ allows b ps (class_of ps x) i o
  unfolding asks
  allows-same x i o e =
      ap (λ z. asks ((vertex_at b o).outlet && z) (reaches b.edges i o)) (after x o)
      ∙ asks-same (vertex_at b o).outlet (place_leads b ps x o) (place_leads b ps a o || place_leads b ps c o) (reaches b.edges i o)
      (place_leads b ps x a || place_leads b ps x c) e

  -- the inlets on which each outlet that it leads to depends
  allowed-after : (x : ℕ) (t : Bool) → (place_leads b ps x a || place_leads b ps x c) ≡ t
      → elim t [ true ↦ met (ways_at b ps x).allowed both.allowed | false ↦ (ways_at b ps x).allowed ] ≡ (ways_at b (merged ps k l) x).allowed
  unfolding both
  allowed-after x true e =
      three-met (λ i. (vertex_at b i).inlet && all_of (allows b ps (class_of ps x) i) (places b))
      (λ i. (vertex_at b i).inlet && all_of (allows b ps (class_of ps a) i) (places b))
      (λ i. (vertex_at b i).inlet && all_of (allows b ps (class_of ps c) i) (places b))
      ∙ places-same _ _ (λ i m. and-table (vertex_at b i).inlet (all_of (allows b ps (class_of ps x) i) (places b))
      (all_of (allows b ps (class_of ps a) i) (places b)) (all_of (allows b ps (class_of ps c) i) (places b))
      ∙ sym (ap (λ z. (vertex_at b i).inlet && z) (each i)))
    where
      each : (i : ℕ) → all_of (allows b (merged ps k l) (class_of (merged ps k l) x) i) (places b)
          ≡ (all_of (allows b ps (class_of ps x) i) (places b)
          && (all_of (allows b ps (class_of ps a) i) (places b) && all_of (allows b ps (class_of ps c) i) (places b)))
      each i =
          all-same (allows b (merged ps k l) (class_of (merged ps k l) x) i)
          (λ o. allows b ps (class_of ps x) i o && (allows b ps (class_of ps a) i o && allows b ps (class_of ps c) i o)) (λ o. allows-after x i o e) (places b)
          ∙ (all-and (allows b ps (class_of ps x) i) (λ o. allows b ps (class_of ps a) i o && allows b ps (class_of ps c) i o) (places b)
          ∙ ap (λ z. all_of (allows b ps (class_of ps x) i) (places b) && z)
          (all-and (allows b ps (class_of ps a) i) (allows b ps (class_of ps c) i) (places b)))
  allowed-after x false e = places-same _ _ (λ i m. ap (λ z. (vertex_at b i).inlet && z)
      (sym (all-same (allows b (merged ps k l) (class_of (merged ps k l) x) i) (allows b ps (class_of ps x) i) (λ o. allows-same x i o e) (places b))))

  -- so the ways of a place are brought up to date
  pub after-ways : (x : ℕ) → x < length b.vertices → ways_after (both_ways (ways_at b ps a) (ways_at b ps c)) x (ways_at b ps x) ≡ ways_at b (merged ps k l) x
  unfolding both
  after-ways x h = fields
      (ap (λ t. elim t [ true ↦ joined (ways_at b ps x).ahead both.ahead | false ↦ (ways_at b ps x).ahead ]) (there x h)
      ∙ ahead-after x (place_leads b ps x a || place_leads b ps x c) refl)
      (ap (λ t. elim t [ true ↦ joined (ways_at b ps x).behind both.behind | false ↦ (ways_at b ps x).behind ]) (back x h)
      ∙ behind-after x (place_leads b ps a x || place_leads b ps c x) refl)
      (ap (λ t. elim t [ true ↦ joined (ways_at b ps x).entering both.entering | false ↦ (ways_at b ps x).entering ]) (back x h)
      ∙ entering-after x (place_leads b ps a x || place_leads b ps c x) refl)
      (ap (λ t. elim t [ true ↦ met (ways_at b ps x).allowed both.allowed | false ↦ (ways_at b ps x).allowed ]) (there x h)
      ∙ allowed-after x (place_leads b ps x a || place_leads b ps x c) refl)
    where
      fields : {d e f g p q r s : List ℕ} → d ≡ p → e ≡ q → f ≡ r → g ≡ s
          → ◌≡◌ {A = Ways} (record { ahead = d; behind = e; entering = f; allowed = g }) (record { ahead = p; behind = q; entering = r; allowed = s })
      fields h i j k = cc

-- and so are those of the least places
pub ways-merged : (b : BlockGraph) (ps : Parts) (k l a c : ℕ) (old news : List Ways) → length b.vertices ≤ 512 → IsParts (length b.vertices) ps → AreClasses ps
    → k < l → l < length ps → class_of ps a ≡ k → class_of ps c ≡ l → (a < length b.vertices) × IsLeast ps a → (c < length b.vertices) × IsLeast ps c
    → AreWays b ps old → AreAdded ps (both_ways (way_in old a) (way_in old c)) old news → AreWays b (merged ps k l) news
ways-merged b ps k l a c old news few parts kept below within in_k in_l la lc ways added = record {
  count = added.count ∙ ways.count;
  each = λ x h least. after x h (λ y e. least y (sym (new-class b (length b.vertices) ps parts k l below within y)
      ∙ (ap (new b (length b.vertices) ps parts k l below within) e ∙ new-class b (length b.vertices) ps parts k l below within x)));
}
  where
    after : (x : ℕ) → x < length b.vertices → IsLeast ps x → way_in news x ≡ ways_at b (merged ps k l) x
    after x h least =
        let first = least-first ps kept (length b.vertices) parts x h least in
        let here : way_in news x ≡ ways_after (both_ways (way_in old a) (way_in old c)) x (way_in old x) =
        subst (λ z. way_in news z ≡ ways_after (both_ways (way_in old a) (way_in old c)) z (way_in old z)) (sym first)
        (added.each (class_of ps x) (parts.in_one x h)) in
        here ∙ (ap₂ (λ (u v : Ways). ways_after (both_ways u v) x (way_in old x)) (ways.each a la.0 la.1) (ways.each c lc.0 lc.1)
        ∙ (ap (ways_after (both_ways (ways_at b ps a) (ways_at b ps c)) x) (ways.each x h least) ∙ after-ways b few ps parts k l below within a
        c in_k in_l x h))
