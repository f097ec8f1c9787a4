-- Lists in which no two elements meet, and the places of a block: one vertex fires for a node, and each place is in one class.
use Rattle.std.proofs.Common.{◌≡◌, ℕ, zero, suc, ◌<◌, Bool, true, false, ◌==◌, not, List, [], ◌∷◌, ◌++◌, filter, flat_map, Option, Some, None, length}
use Rattle.std.proofs.Common.{slice_get, refl, sym, ap, ◌∙◌, arith, tests, subst, inl, inr, ◌⊎◌, ⊎_elim, true≢false}
use Rattle.std.specs.List.{AllByRecursion}
use Rattle.tam_word.specs.Lists.{first_of, below, has}
use Rattle.tam_graph.specs.Graphs.{Graph, Code, code_of, kind_at, block_at, nodes_in, node_numbers, blocks_of, is_split}
use Rattle.tam_graph.specs.Edges.{Edges}
use Rattle.tam_split.specs.declared.vertex.Vertex.{Vertex}
use Rattle.tam_split.specs.Blocks.{block_graph, vertices_of, vertex_at, or_vertex}
use Rattle.tam_split.specs.Partitions.{Parts, class_at, or_empty}
use Rattle.tam_split.specs.GraphPartitions.{Partitions, parts_of, are_valid, waits_for_none, taken_first, firing_order}
use Rattle.tam_word.proofs.Tests.{and-left, number-eq}
use Rattle.tam_word.proofs.Each.{all-of_each, each-below, below-each, all-more, all-append, all-filter, all-at_place}
use Rattle.tam_flow.proofs.CellChanges.{none-some, some-eq}
use Rattle.tam_flow.proofs.Deliveries.{there-some}
use Rattle.tam_flow.proofs.ClassRuns.{taken-each}
use Rattle.tam_word.proofs.Members.{in-has, In}

-- R holds of each element and each one behind it
abbrev pub Pairs : {X : Type 0} → (X → X → Type 0) → List X → Type 0
Pairs R [] = Unit {0}
Pairs R (x ∷ xs) = AllByRecursion (R x) xs × Pairs R xs

-- in two lists joined no two meet where none do in each, and none of the one meets one of the other
pub pairs-append : {X : Type 0} (R : X → X → Type 0) (xs ys : List X) → Pairs R xs → Pairs R ys → AllByRecursion (λ x. AllByRecursion (R x) ys) xs
    → Pairs R (xs ++ ys)
pairs-append R [] ys h k c = k
pairs-append R (x ∷ xs) ys h k c = (all-append (R x) xs ys h.0 c.0, pairs-append R xs ys h.1 k c.1)

-- two places are one, or R holds one way or the other
pub pairs-at : {X : Type 0} (R : X → X → Type 0) (xs : List X) (m n : ℕ) (x y : X) → Pairs R xs → slice_get xs m ≡ Some x → slice_get xs n ≡ Some y
    → (m ≡ n) ⊎ (R x y ⊎ R y x)
pairs-at R [] m n x y h e d = absurd (none-some e)
pairs-at R (z ∷ xs) zero zero x y h e d = inl refl
pairs-at R (z ∷ xs) zero (suc n) x y h e d = inr (inl (subst (λ v. R v y) (some-eq e) (all-at_place (R z) xs n y h.0 d)))
pairs-at R (z ∷ xs) (suc m) zero x y h e d = inr (inr (subst (λ v. R v x) (some-eq d) (all-at_place (R z) xs m x h.0 e)))
pairs-at R (z ∷ xs) (suc m) (suc n) x y h e d = ⊎_elim (λ k. inl (ap suc k)) inr (pairs-at R xs m n x y h.1 e d)

-- what a test leaves doesn't meet either
pub pairs-filter : {X : Type 0} (R : X → X → Type 0) (test : X → Bool) (xs : List X) → Pairs R xs → Pairs R (filter test xs)
pairs-filter R test [] h = tt
pairs-filter R test (x ∷ xs) h = go (test x) refl (pairs-filter R test xs h.1)
  where
    go : (b : Bool) → test x ≡ b → Pairs R (filter test xs) → Pairs R (filter test (x ∷ xs))
    go true e i = rw e (all-more (λ y. R x y × (test y ≡ true)) (R x) (λ y k. k.0) (filter test xs) (all-filter (R x) test xs h.0), i)
    go false e i = rw e i

-- where f keeps elements apart, the lists that it gives are apart
pub pairs-flat : {X Y : Type 0} (R : Y → Y → Type 0) (f : X → List Y) (xs : List X) → AllByRecursion (λ x. Pairs R (f x)) xs
    → Pairs (λ x y. AllByRecursion (λ u. AllByRecursion (R u) (f y)) (f x)) xs → Pairs R (flat_map f xs)
pairs-flat R f [] h k = tt
pairs-flat R f (x ∷ xs) h k = pairs-append R (f x) (flat_map f xs) h.0 (pairs-flat R f xs h.1 k.1) (across (f x) xs k.0)
  where
    one : (u : _) (us : List _) → AllByRecursion (λ y. AllByRecursion (R u) (f y)) us → AllByRecursion (R u) (flat_map f us)
    one u [] a = tt
    one u (y ∷ ys) a = all-append (R u) (f y) (flat_map f ys) a.0 (one u ys a.1)

    across : (us : List _) (ys : List _) → AllByRecursion (λ y. AllByRecursion (λ u. AllByRecursion (R u) (f y)) us) ys
        → AllByRecursion (λ u. AllByRecursion (R u) (flat_map f ys)) us
    across [] ys a = tt
    across (u ∷ us) ys a = (
      one u ys (all-more (λ y. AllByRecursion (λ v. AllByRecursion (R v) (f y)) (u ∷ us)) (λ y. AllByRecursion (R u) (f y)) (λ y k. k.0) ys a),
      across us ys (all-more (λ y. AllByRecursion (λ v. AllByRecursion (R v) (f y)) (u ∷ us)) (λ y. AllByRecursion (λ v. AllByRecursion (R v) (f y)) us)
          (λ y k. k.1) ys a),
    )

-- ---- the nodes of a block differ

-- the numbers below a number differ
below-apart : (n : ℕ) → Pairs (λ x y. x ≡ y → ⊥) (below n)
below-apart zero = tt
below-apart (suc n) =
    pairs-append (λ x y. x ≡ y → ⊥) (below n) (n ∷ []) (below-apart n) (tt, tt)
    (below-each (λ x. AllByRecursion (λ y. x ≡ y → ⊥) (n ∷ [])) n (λ x l. ((λ e. no x e l), tt)))
  where
    no : (x : ℕ) → x ≡ n → x < n → ⊥
    no x e l = absurd (omega (arith, e, l))

-- of one node two vertices that are no inlets are one
abbrev pub FireApart : Vertex → Vertex → Type 0
FireApart u v = u.inlet ≡ false → v.inlet ≡ false → u.node ≡ v.node → ⊥

-- no two vertices of a block fire for one node
vertices-apart : (c : Code) (b : ℕ) → Pairs FireApart (block_graph c b).vertices
vertices-apart c b =
    pairs-flat FireApart (λ x. vertices_of x (kind_at c x)) (nodes_in c b) (each (nodes_in c b))
    (pairs-more (nodes_in c b) (pairs-filter (λ x y. x ≡ y → ⊥) (λ x. block_at c x == b) (node_numbers c) (below-apart (length c.nodes))))
  where
    its-node : (x : ℕ) → AllByRecursion (λ v. v.node ≡ x) (vertices_of x (kind_at c x))
    its-node x = go (is_split (kind_at c x)) refl
      where
        go : (t : Bool) → is_split (kind_at c x) ≡ t → AllByRecursion (λ v. v.node ≡ x) (vertices_of x (kind_at c x))
        go true e = rw (vertices_of, e) (refl, (refl, tt))
        go false e = rw (vertices_of, e) (refl, tt)

    own : (x : ℕ) → Pairs FireApart (vertices_of x (kind_at c x))
    own x = go (is_split (kind_at c x)) refl
      where
        go : (t : Bool) → is_split (kind_at c x) ≡ t → Pairs FireApart (vertices_of x (kind_at c x))
        go true e = rw (vertices_of, e) (((λ p q r. true≢false q), tt), (tt, tt))
        go false e = rw (vertices_of, e) (tt, tt)

    each : (xs : List ℕ) → AllByRecursion (λ x. Pairs FireApart (vertices_of x (kind_at c x))) xs
    each [] = tt
    each (x ∷ xs) = (own x, each xs)

    far : (x y : ℕ) → (x ≡ y → ⊥) → AllByRecursion (λ u. AllByRecursion (FireApart u) (vertices_of y (kind_at c y))) (vertices_of x (kind_at c x))
    far x y n =
        all-more (λ u. u.node ≡ x) (λ u. AllByRecursion (FireApart u) (vertices_of y (kind_at c y)))
        (λ u h. all-more (λ v. v.node ≡ y) (FireApart u) (λ v k p q r. n (sym h ∙ r ∙ k)) (vertices_of y (kind_at c y)) (its-node y))
        (vertices_of x (kind_at c x)) (its-node x)

    pairs-more : (xs : List ℕ) → Pairs (λ x y. x ≡ y → ⊥) xs
        → Pairs (λ x y. AllByRecursion (λ u. AllByRecursion (FireApart u) (vertices_of y (kind_at c y))) (vertices_of x (kind_at c x))) xs
    pairs-more [] h = tt
    pairs-more (x ∷ xs) h = (
      all-more (λ y. x ≡ y → ⊥)
          (λ y. AllByRecursion (λ u. AllByRecursion (FireApart u) (vertices_of y (kind_at c y))) (vertices_of x (kind_at c x)))
          (λ y k. far x y k) xs h.0,
      pairs-more xs h.1,
    )

-- so the places at which one node fires are one
pub fires-once : (c : Code) (b y z : ℕ) → y < length (block_graph c b).vertices → z < length (block_graph c b).vertices
    → (vertex_at (block_graph c b) y).inlet ≡ false → (vertex_at (block_graph c b) z).inlet ≡ false
    → (vertex_at (block_graph c b) y).node ≡ (vertex_at (block_graph c b) z).node → y ≡ z
fires-once c b y z l m p q r = go (slice_get (block_graph c b).vertices y) refl (slice_get (block_graph c b).vertices z) refl
  where
    go : (o : Option Vertex) → slice_get (block_graph c b).vertices y ≡ o → (n : Option Vertex) → slice_get (block_graph c b).vertices z ≡ n → y ≡ z
    go None e n d = absurd (there-some (block_graph c b).vertices y l e)
    go (Some u) e None d = absurd (there-some (block_graph c b).vertices z m d)
    go (Some u) e (Some v) d =
        let pu : u.inlet ≡ false = subst (λ o. (or_vertex o).inlet ≡ false) e p in
        let pv : v.inlet ≡ false = subst (λ o. (or_vertex o).inlet ≡ false) d q in
        let pn : u.node ≡ v.node = subst (λ o. (or_vertex o).node ≡ v.node) e (subst (λ o. (vertex_at (block_graph c b) y).node ≡ (or_vertex o).node) d r) in
        ⊎_elim (λ k. k) (λ k. absurd (⊎_elim (λ f. f pu pv pn) (λ f. f pv pu (sym pn)) k))
        (pairs-at FireApart (block_graph c b).vertices y z u v (vertices-apart c b) e d)

-- ---- a place stands in one class

-- where no element is left, none passes
none-pass : {X : Type 0} (test : X → Bool) (xs : List X) (n : ℕ) (x : X) → length (filter test xs) ≡ 0 → slice_get xs n ≡ Some x → test x ≡ true → ⊥
none-pass test [] n x l e p = none-some e
none-pass test (y ∷ xs) n x l e p = go (test y) refl n e (λ m d k. none-pass test xs m x k d p)
  where
    go : (b : Bool) → test y ≡ b → (m : ℕ) → slice_get (y ∷ xs) m ≡ Some x → ((m : ℕ) → slice_get xs m ≡ Some x → length (filter test xs) ≡ 0 → ⊥) → ⊥
    go true d m k i = let z : suc (length (filter test xs)) ≡ 0 = rw d at l in absurd (omega (arith, z))
    go false d zero k i = true≢false (sym p ∙ ap test (sym (some-eq k)) ∙ d)
    go false d (suc m) k i = i m k (rw d at l)

-- where one is left, what passes stands at one place
one-passes : {X : Type 0} (test : X → Bool) (xs : List X) (m n : ℕ) (x y : X) → length (filter test xs) ≡ 1 → slice_get xs m ≡ Some x
    → slice_get xs n ≡ Some y
    → test x ≡ true → test y ≡ true → m ≡ n
one-passes test [] m n x y l e d p q = absurd (none-some e)
one-passes test (z ∷ xs) m n x y l e d p q = go (test z) refl m e n d (λ i j a b k. one-passes test xs i j x y k a b p q)
  where
    go : (b : Bool) → test z ≡ b → (i : ℕ) → slice_get (z ∷ xs) i ≡ Some x → (j : ℕ) → slice_get (z ∷ xs) j ≡ Some y
        → ((i j : ℕ) → slice_get xs i ≡ Some x → slice_get xs j ≡ Some y → length (filter test xs) ≡ 1 → i ≡ j) → i ≡ j
    go true t zero a zero b ih = refl
    go true t zero a (suc j) b ih = let r : suc (length (filter test xs)) ≡ 1 = rw t at l in absurd (none-pass test xs j y (omega (arith, r)) b q)
    go true t (suc i) a zero b ih = let r : suc (length (filter test xs)) ≡ 1 = rw t at l in absurd (none-pass test xs i x (omega (arith, r)) a p)
    go true t (suc i) a (suc j) b ih = let r : suc (length (filter test xs)) ≡ 1 = rw t at l in absurd (none-pass test xs i x (omega (arith, r)) a p)
    go false t zero a j b ih = absurd (true≢false (sym p ∙ ap test (sym (some-eq a)) ∙ t))
    go false t (suc i) a zero b ih = absurd (true≢false (sym q ∙ ap test (sym (some-eq b)) ∙ t))
    go false t (suc i) a (suc j) b ih = ap suc (ih i j a b (rw t at l))

-- a valid partition has each place of the block in one class
pub class-once : (g : Graph) (all : Partitions) (n b c d y : ℕ) → are_valid g all ≡ true → n < length g.codes → b < length (code_of g n).owners
    → y < length (block_graph (code_of g n) b).vertices → In y (class_at (parts_of all n b) c) → In y (class_at (parts_of all n b) d) → c ≡ d
class-once g all n b c d y valid there inside l h k =
    let codes = all-of_each _ (below (length g.codes)) valid in
    let here = each-below _ (length g.codes) n codes there in
    let blocks = all-of_each _ (blocks_of (code_of g n)) here in
    let this = each-below _ (length (code_of g n).owners) b blocks inside in
    let places = all-of_each (λ x. length (filter (λ p. has p x) (parts_of all n b)) == 1) (below (length (block_graph (code_of g n) b).vertices))
    (and-left _ _ (and-left _ _ this)) in
    let one = each-below _ (length (block_graph (code_of g n) b).vertices) y places l in
    two (parts_of all n b) (number-eq _ _ one) h k
  where
    two : (parts : Parts) → length (filter (λ p. has p y) parts) ≡ 1 → In y (class_at parts c) → In y (class_at parts d) → c ≡ d
    two parts one h k = go (slice_get parts c) refl (slice_get parts d) refl
      where
        go : (o : Option (List ℕ)) → slice_get parts c ≡ o → (q : Option (List ℕ)) → slice_get parts d ≡ q → c ≡ d
        go None e q f = absurd (subst (λ m. In y (or_empty m)) e h)
        go (Some p) e None f = absurd (subst (λ m. In y (or_empty m)) f k)
        go (Some p) e (Some q) f =
            one-passes (λ r. has r y) parts c d p q one e f (in-has p y (subst (λ m. In y (or_empty m)) e h))
            (in-has q y (subst (λ m. In y (or_empty m)) f k))

-- ---- a class without repetition fires each place once

-- no element stands twice
abbrev pub NoTwice : List ℕ → Type 0
NoTwice xs = Pairs (λ x y. x ≡ y → ⊥) xs

-- what is taken in turn has no element twice where the list has none
taken-once : (n : ℕ) (es : Edges) (left : List ℕ) → NoTwice left → NoTwice (taken_first n es left)
taken-once zero es left h = h
taken-once (suc n) es left h = go (first_of (waits_for_none es left) left) refl (λ l k. taken-once n es l k)
  where
    go : (f : List ℕ) → first_of (waits_for_none es left) left ≡ f → ((l : List ℕ) → NoTwice l → NoTwice (taken_first n es l))
        → NoTwice (taken_first (suc n) es left)
    go [] e ih = rw (taken_first, e) h
    go (x ∷ xs) e ih =
        rw (taken_first, e) (
          taken-each (λ y. x ≡ y → ⊥) n es (filter (λ y. not (y == x)) left)
              (all-more (λ y. Unit {0} × (not (y == x) ≡ true)) (λ y. x ≡ y → ⊥) (λ y k d. other y k.1 d) (filter (λ y. not (y == x)) left)
              (all-filter (λ y. Unit {0}) (λ y. not (y == x)) left (units left))),
          ih (filter (λ y. not (y == x)) left) (pairs-filter (λ a b. a ≡ b → ⊥) (λ y. not (y == x)) left h),
        )
      where
        units : (l : List ℕ) → AllByRecursion (λ y. Unit {0}) l
        units [] = tt
        units (y ∷ ys) = (tt, units ys)

        other : (y : ℕ) → not (y == x) ≡ true → x ≡ y → ⊥
        other y k d = let same : (y == x) ≡ true = grind (arith, tests) in true≢false (sym k ∙ ap not same)

-- so the order of firing has none twice where the class has none
pub order-once : (es : Edges) (class : List ℕ) → NoTwice class → NoTwice (firing_order es class)
order-once es class h = taken-once (length class) es class h
