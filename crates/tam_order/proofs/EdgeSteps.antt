-- One edge more in the tables of sets: of classes directly behind each class, of places with an edge to each place.
use Rattle.std.proofs.Common.{◌≡◌, ◌≢◌, ℕ, ◌<◌, Bool, true, false, ◌&&◌, ◌||◌, ◌==◌, List, [], ◌∷◌, map, drop, length, slice_set, refl, sym, ap, ◌∙◌}
use Rattle.std.proofs.Common.{arith, tests}
use Rattle.std.proofs.lemmas.List.{drop_all}
use Rattle.tam_word.specs.Lists.{below, any_of}
use Rattle.tam_word.proofs.Tests.{self-eq, eq-number, differs-number}
use Rattle.tam_graph.specs.Edges.{Edges}
use Rattle.tam_split.specs.Partitions.{Parts, class_of, class_edges, directly_before}
use Rattle.tam_sets.specs.Sets.{with_place}
use Rattle.tam_sets.proofs.PlacesWhere.{places-same, where-none}
use Rattle.tam_reach.proofs.Spread.{map-below}
use Rattle.tam_order.specs.ClassOrders.{behind_of, preceding_of}
use Rattle.tam_order.proofs.Rows.{row-grows}

-- the test whether an edge runs so
abbrev pub runs_so : ℕ → ℕ → ℕ × ℕ → Bool
runs_so k d e = (e.0 == k) && (e.1 == d)

-- what is true or something else, in either order
pub or-elim : (s t : Bool) → (s || t) ≡ elim t [ true ↦ true | false ↦ s ]
or-elim true true = refl
or-elim true false = refl
or-elim false true = refl
or-elim false false = refl

-- equal either way
pub eq-turned : (x y : ℕ) → (x == y) ≡ (y == x)
eq-turned x y = grind (arith, tests)

module _ (es : Edges) (e : ℕ × ℕ) (ps : Parts) where
  -- an edge within a class is none between classes
  pub within-class : class_of ps e.0 ≡ class_of ps e.1 → class_edges ps (e ∷ es) ≡ class_edges ps es
  within-class h = rw (class_edges, eq-number (class_of ps e.0) (class_of ps e.1) h) refl

  -- another is
  between-classes : class_of ps e.0 ≢ class_of ps e.1 → class_edges ps (e ∷ es) ≡ (class_of ps e.0, class_of ps e.1) ∷ class_edges ps es
  between-classes h = rw (class_edges, differs-number (class_of ps e.0) (class_of ps e.1) h) refl

  -- it puts the class of its end behind the class of its start
  pub behind-grows : (n : ℕ) (row : List ℕ) → class_of ps e.0 < n → class_of ps e.0 ≢ class_of ps e.1
      → row ≡ with_place (class_of ps e.1) (behind_of es ps (class_of ps e.0))
      → slice_set (map (behind_of es ps) (below n)) (class_of ps e.0) row ≡ map (behind_of (e ∷ es) ps) (below n)
  behind-grows n row l differ r = row-grows (directly_before es ps) (directly_before (e ∷ es) ps) n a p row l r here elsewhere
    where
      a : ℕ
      a = class_of ps e.0

      p : ℕ
      p = class_of ps e.1

      more : (k y : ℕ) → directly_before (e ∷ es) ps k y ≡ elim ((a == k) && (p == y)) [ true ↦ true | false ↦ directly_before es ps k y ]
      more k y = ap (any_of (runs_so k y)) (between-classes differ)

      here : (y : ℕ) → (directly_before es ps a y || (y == p)) ≡ directly_before (e ∷ es) ps a y
      here y =
          or-elim (directly_before es ps a y) (y == p)
          ∙ (ap (λ (t : Bool). elim t [ true ↦ true | false ↦ directly_before es ps a y ]) (eq-turned y p ∙ sym (ap (λ s. s && (p == y)) (self-eq a)))
          ∙ sym (more a y))

      elsewhere : (k y : ℕ) → k ≢ a → directly_before es ps k y ≡ directly_before (e ∷ es) ps k y
      elsewhere k y d =
          sym (more k y ∙ ap (λ s. elim (s && (p == y)) [ true ↦ true | false ↦ directly_before es ps k y ]) (differs-number a k (λ q. d (sym q))))

-- an edge puts its start before its end
pub preceding-grows : (es : Edges) (e : ℕ × ℕ) (n : ℕ) (row : List ℕ) → e.1 < n → row ≡ with_place e.0 (preceding_of es e.1)
    → slice_set (map (preceding_of es) (below n)) e.1 row ≡ map (preceding_of (e ∷ es)) (below n)
preceding-grows es e n row l r = row-grows (test es) (test (e ∷ es)) n e.1 e.0 row l r here elsewhere
  where
    test : Edges → ℕ → ℕ → Bool
    test fs x y = any_of (λ f. (f.1 == x) && (y == f.0)) fs

    here : (y : ℕ) → (test es e.1 y || (y == e.0)) ≡ test (e ∷ es) e.1 y
    here y =
        or-elim (test es e.1 y) (y == e.0)
        ∙ sym (ap (λ s. elim (s && (y == e.0)) [ true ↦ true | false ↦ test es e.1 y ]) (self-eq e.1))

    elsewhere : (k y : ℕ) → k ≢ e.1 → test es k y ≡ test (e ∷ es) k y
    elsewhere k y d = sym (ap (λ s. elim (s && (y == e.0)) [ true ↦ true | false ↦ test es k y ]) (differs-number e.1 k (λ q. d (sym q))))

-- behind the last edge none precede
pub none-precede : (es : Edges) (x : ℕ) → [] ≡ preceding_of (drop (length es) es) x
none-precede es x = sym (ap (λ fs. preceding_of fs x) (drop_all (length es) es (omega arith)) ∙ where-none (λ y. false) (λ y l. refl))

-- and none stands behind
pub none-behind : (es : Edges) (ps : Parts) (k : ℕ) → [] ≡ behind_of (drop (length es) es) ps k
none-behind es ps k = sym (ap (λ fs. behind_of fs ps k) (drop_all (length es) es (omega arith)) ∙ where-none (λ y. false) (λ y l. refl))

-- an edge within a class puts no class behind another
pub behind-same : (es : Edges) (e : ℕ × ℕ) (fs : Edges) (ps : Parts) (n : ℕ) → fs ≡ e ∷ es → class_of ps e.0 ≡ class_of ps e.1
    → map (behind_of es ps) (below n) ≡ map (behind_of fs ps) (below n)
behind-same es e fs ps n next within = map-below (behind_of es ps) (behind_of fs ps) n (λ k l.
    places-same (directly_before es ps k) (directly_before fs ps k) (λ y m.
    sym (ap (λ gs. directly_before gs ps k y) next ∙ ap (any_of (runs_so k y)) (within-class es e ps within))))
