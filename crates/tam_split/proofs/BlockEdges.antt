-- The vertices and the edges of a block of a code.
use Rattle.std.proofs.Common.{◌≡◌, ℕ, zero, suc, ◌+◌, ◌<◌, Bool, true, false, ◌&&◌, List, [], ◌∷◌, refl, sym, subst, ap, ap₂, inl, inr, ◌⊎◌, ◌∙◌, true≢false}
use Rattle.std.proofs.Common.{◌==◌, length, filter, flat_map, slice_get, Some, nat_lt, arith, tests}
use Rattle.std.proofs.lemmas.Option.{none-some, same_Some, slice_get_within}
use Rattle.tam_word.specs.Lists.{all_of, placed_from}
use Rattle.tam_word.proofs.Tests.{number-eq, both-true}
use Rattle.tam_word.proofs.Members.{In, map-in, in-map, filter-in, in-filter, flat_map-in, in-flat_map, any-in, in-all, has-in, in-has, get-in, get-append}
use Rattle.tam_word.proofs.Members.{Distinct, distinct-below, distinct-filter}
use Rattle.tam_graph.specs.declared.kind.Kind.{Kind}
use Rattle.tam_graph.specs.Graphs.{Code, kind_at, nodes_in, node_numbers, block_at, operands_of, is_split, is_inlet, is_outlet}
use Rattle.tam_graph.specs.Edges.{Edges}
use Rattle.tam_graph.proofs.Walks.{is_edge}
use Rattle.tam_split.specs.declared.vertex.Half.TheVariants.{Whole, Ask, Answer}
use Rattle.tam_split.specs.declared.vertex.Vertex.{Vertex}
use Rattle.tam_split.specs.Blocks.{vertices_of, vertices_in, is_ask, is_answer, taken_by, feeds, edges_from, edges_among}

-- ---- elements with their places

-- an element with its place is the element that stands there
in-placed : (n : ℕ) (vs : List Vertex) (p : ℕ × Vertex) → In p (placed_from n vs) → (k : ℕ) × (p.0 ≡ n + k) × (slice_get vs k ≡ Some p.1)
in-placed n [] p h = absurd h
in-placed n (v ∷ vs) p (inl e) = (0, let q : n ≡ p.0 = ap (λ (r : ℕ × Vertex). r.0) e in omega arith, ap (λ (r : ℕ × Vertex). Some r.1) e)
in-placed n (v ∷ vs) p (inr h) = let r = in-placed (n + 1) vs p h in let e : p.0 ≡ (n + 1) + r.0 = r.1 in (suc r.0, omega arith, r.2)

-- and the other way round
placed-in : (n : ℕ) (vs : List Vertex) (k : ℕ) (v : Vertex) → slice_get vs k ≡ Some v → In (n + k, v) (placed_from n vs)
placed-in n [] k v h = absurd (none-some v h)
placed-in n (w ∷ vs) zero v h = let e : n ≡ n + 0 = omega arith in inl (ap₂ (λ (x : ℕ) (u : Vertex). (x, u)) e (same_Some w v h))
placed-in n (w ∷ vs) (suc k) v h =
    let e : (n + 1) + k ≡ n + suc k = omega arith in
    inr (subst (λ z. In (z, v) (placed_from (n + 1) vs)) e (placed-in (n + 1) vs k v h))

-- counted from 0
from-zero : (vs : List Vertex) (k : ℕ) (v : Vertex) → slice_get vs k ≡ Some v → In (k, v) (placed_from 0 vs)
from-zero vs k v h = let e : 0 + k ≡ k = omega arith in subst (λ z. In (z, v) (placed_from 0 vs)) e (placed-in 0 vs k v h)

-- ---- edges

-- an edge's ends, and that the first gives what the second takes
pub record Fed (c : Code) (vs : List Vertex) (i j : ℕ) : Type 0 where
  pub giver : Vertex
  pub taker : Vertex
  pub at_giver : slice_get vs i ≡ Some giver
  pub at_taker : slice_get vs j ≡ Some taker
  pub fed : feeds c giver taker ≡ true

-- an edge has such ends
pub in-fed : (c : Code) (vs : List Vertex) (e : ℕ × ℕ) → In e (edges_among c vs) → Fed c vs e.0 e.1
in-fed c vs e h =
    let r = in-flat_map (edges_from c (placed_from 0 vs)) e (placed_from 0 vs) h in
    let s = in-map (λ (v : ℕ × Vertex). (r.0.0, v.0)) e (filter (λ v. feeds c r.0.1 v.1) (placed_from 0 vs)) r.2 in
    let t = in-filter (λ (v : ℕ × Vertex). feeds c r.0.1 v.1) s.0 (placed_from 0 vs) s.1 in
    let p = in-placed 0 vs r.0 r.1 in
    let q = in-placed 0 vs s.0 t.0 in
    let i : p.0 ≡ e.0 = let a : r.0.0 ≡ 0 + p.0 = p.1 in let b : r.0.0 ≡ e.0 = ap (λ (d : ℕ × ℕ). d.0) s.2 in omega arith in
    let j : q.0 ≡ e.1 = let a : s.0.0 ≡ 0 + q.0 = q.1 in let b : s.0.0 ≡ e.1 = ap (λ (d : ℕ × ℕ). d.1) s.2 in omega arith in
    record {
      giver = r.0.1;
      taker = s.0.1;
      at_giver = subst (λ k. slice_get vs k ≡ Some r.0.1) i p.2;
      at_taker = subst (λ k. slice_get vs k ≡ Some s.0.1) j q.2;
      fed = t.1;
    }

-- and between such ends there is an edge
pub fed-in : (c : Code) (vs : List Vertex) (i j : ℕ) → Fed c vs i j → In (i, j) (edges_among c vs)
fed-in c vs i j f =
    let p = from-zero vs i f.giver f.at_giver in
    let q = from-zero vs j f.taker f.at_taker in
    flat_map-in (edges_from c (placed_from 0 vs)) (i, f.giver) (i, j) (placed_from 0 vs) p
    (map-in (λ (v : ℕ × Vertex). (i, v.0)) (j, f.taker) (filter (λ v. feeds c f.giver v.1) (placed_from 0 vs))
    (filter-in (λ (v : ℕ × Vertex). feeds c f.giver v.1) (j, f.taker) (placed_from 0 vs) q f.fed))

-- an edge by the test
pub is_edge-in : (es : Edges) (i j : ℕ) → is_edge es i j ≡ true → In (i, j) es
is_edge-in es i j h =
    let r = any-in (λ e. (e.0 == i) && (e.1 == j)) es h in
    let p = both-true (r.0.0 == i) (r.0.1 == j) r.2 in
    subst (λ e. In e es) (ap₂ (λ (x y : ℕ). (x, y)) (number-eq r.0.0 i p.0) (number-eq r.0.1 j p.1)) r.1

-- ---- what it is to feed

-- the giver is no ask, the taker no answer, and the giver's node is an operand of the taker's
abbrev pub FeedParts : Code → Vertex → Vertex → Type 0
FeedParts c u v = (is_ask u.half ≡ false) × (is_answer v.half ≡ false) × In u.node (operands_of c (kind_at c v.node))

-- what feeds
pub feeds-parts : (c : Code) (u v : Vertex) → feeds c u v ≡ true → FeedParts c u v
feeds-parts c u v h = go (is_ask u.half) refl (is_answer v.half) refl
  where
    go : (s : Bool) → is_ask u.half ≡ s → (t : Bool) → is_answer v.half ≡ t → FeedParts c u v
    go true p t q = absurd (true≢false (sym (rw (feeds, p) at h)))
    go false p true q = absurd (true≢false (sym (rw (feeds, p, taken_by, q) at h)))
    go false p false q = (p, q, has-in (operands_of c (kind_at c v.node)) u.node (rw (feeds, p, taken_by, q) at h))

-- and where these hold it feeds
pub parts-feed : (c : Code) (u v : Vertex) → FeedParts c u v → feeds c u v ≡ true
parts-feed c u v h = rw (feeds, h.0, taken_by, h.1) (in-has (operands_of c (kind_at c v.node)) u.node h.2)

-- ---- vertices

-- the vertices of node x, where it is split
abbrev two_of : ℕ → List Vertex
two_of x = record { node = x; half = Ask; inlet = false; outlet = true } ∷ record { node = x; half = Answer; inlet = true; outlet = false } ∷ []

-- and where it isn't
abbrev one_of : ℕ → Kind → List Vertex
one_of x k = record { node = x; half = Whole; inlet = is_inlet k; outlet = is_outlet k } ∷ []

-- what a vertex of node x is, where the node is split and where it isn't
pub record IsVertexOf (x : ℕ) (k : Kind) (v : Vertex) : Type 0 where
  pub node : v.node ≡ x
  pub split : is_split k ≡ true → (v.half ≡ Ask) ⊎ (v.half ≡ Answer)
  pub whole : is_split k ≡ false → (v.half ≡ Whole) × (v.inlet ≡ is_inlet k) × (v.outlet ≡ is_outlet k)

-- a vertex of node x is as its kind says
pub in-vertex : (x : ℕ) (k : Kind) (v : Vertex) → In v (vertices_of x k) → IsVertexOf x k v
in-vertex x k v h = go (is_split k) refl
  where
    cut : In v (two_of x) → is_split k ≡ true → IsVertexOf x k v
    cut (inl e) p = record {
      node = sym (ap (λ (w : Vertex). w.node) e);
      split = λ q. inl (sym (ap (λ (w : Vertex). w.half) e));
      whole = λ q. absurd (true≢false (sym p ∙ q));
    }
    cut (inr (inl e)) p = record {
      node = sym (ap (λ (w : Vertex). w.node) e);
      split = λ q. inr (sym (ap (λ (w : Vertex). w.half) e));
      whole = λ q. absurd (true≢false (sym p ∙ q));
    }
    cut (inr (inr b)) p = absurd b

    uncut : In v (one_of x k) → is_split k ≡ false → IsVertexOf x k v
    uncut (inl e) p = record {
      node = sym (ap (λ (w : Vertex). w.node) e);
      split = λ q. absurd (true≢false (sym q ∙ p));
      whole = λ q. (sym (ap (λ (w : Vertex). w.half) e), sym (ap (λ (w : Vertex). w.inlet) e), sym (ap (λ (w : Vertex). w.outlet) e));
    }
    uncut (inr b) p = absurd b

    go : (t : Bool) → is_split k ≡ t → IsVertexOf x k v
    go true p = cut (rw (vertices_of, p) at h) p
    go false p = uncut (rw (vertices_of, p) at h) p

-- a vertex of a block is one of its own node's, and the node is the block's
pub vertex-node : (c : Code) (b : ℕ) (v : Vertex) → In v (vertices_in c b) → In v.node (nodes_in c b) × IsVertexOf v.node (kind_at c v.node) v
vertex-node c b v h =
    let r = in-flat_map (λ x. vertices_of x (kind_at c x)) v (nodes_in c b) h in
    let s = in-vertex r.0 (kind_at c r.0) v r.2 in
    (subst (λ x. In x (nodes_in c b)) (sym s.node) r.1, subst (λ x. IsVertexOf x (kind_at c x) v) (sym s.node) s)

-- ---- one vertex gives a node's value

-- of a node's vertices one isn't an ask
one-giver : (x : ℕ) (k : Kind) (i j : ℕ) (u v : Vertex) → slice_get (vertices_of x k) i ≡ Some u → slice_get (vertices_of x k) j ≡ Some v
    → is_ask u.half ≡ false → is_ask v.half ≡ false → i ≡ j
one-giver x k i j u v p q a d = go (is_split k) refl
  where
    cut : (n : ℕ) (w : Vertex) → slice_get (two_of x) n ≡ Some w → is_ask w.half ≡ false → n ≡ 1
    cut zero w e f =
        let s = same_Some (record { node = x; half = Ask; inlet = false; outlet = true }) w e in
        absurd (true≢false (ap (λ (y : Vertex). is_ask y.half) s ∙ f))
    cut (suc zero) w e f = refl
    cut (suc (suc n)) w e f = absurd (none-some w e)

    uncut : (n : ℕ) (w : Vertex) → slice_get (one_of x k) n ≡ Some w → n ≡ 0
    uncut zero w e = refl
    uncut (suc n) w e = absurd (none-some w e)

    go : (t : Bool) → is_split k ≡ t → i ≡ j
    go true e = cut i u (rw (vertices_of, e) at p) a ∙ sym (cut j v (rw (vertices_of, e) at q) d)
    go false e = uncut i u (rw (vertices_of, e) at p) ∙ sym (uncut j v (rw (vertices_of, e) at q))

-- the vertices of a list of nodes
abbrev vertices_among : Code → List ℕ → List Vertex
vertices_among c xs = flat_map (λ x. vertices_of x (kind_at c x)) xs

-- a vertex at a place is of one of the nodes
among-node : (c : Code) (xs : List ℕ) (i : ℕ) (u : Vertex) → slice_get (vertices_among c xs) i ≡ Some u → In u.node xs
among-node c xs i u h =
    let r = in-flat_map (λ x. vertices_of x (kind_at c x)) u xs (get-in (vertices_among c xs) i u h) in
    subst (λ x. In x xs) (sym (in-vertex r.0 (kind_at c r.0) u r.2).node) r.1

-- where each node stands once, two places whose vertices give one node's value are one
same-place : (c : Code) (xs : List ℕ) → Distinct xs → (i j : ℕ) (u v : Vertex) → slice_get (vertices_among c xs) i ≡ Some u
    → slice_get (vertices_among c xs) j ≡ Some v → u.node ≡ v.node → is_ask u.half ≡ false → is_ask v.half ≡ false → i ≡ j
same-place c [] d i j u v p q e a f = absurd (none-some u p)
same-place c (x ∷ xs) d i j u v p q e a f =
    go (get-append (vertices_of x (kind_at c x)) (vertices_among c xs) i u p)
    (get-append (vertices_of x (kind_at c x)) (vertices_among c xs) j v q) (λ m n s t. same-place c xs d.1 m n u v s t e a f)
  where
    here : (k : ℕ) (w : Vertex) → slice_get (vertices_of x (kind_at c x)) k ≡ Some w → w.node ≡ x
    here k w h = (in-vertex x (kind_at c x) w (get-in (vertices_of x (kind_at c x)) k w h)).node

    go : (slice_get (vertices_of x (kind_at c x)) i ≡ Some u)
        ⊎ ((m : ℕ) × (i ≡ length (vertices_of x (kind_at c x)) + m) × (slice_get (vertices_among c xs) m ≡ Some u))
        → (slice_get (vertices_of x (kind_at c x)) j ≡ Some v)
        ⊎ ((m : ℕ) × (j ≡ length (vertices_of x (kind_at c x)) + m) × (slice_get (vertices_among c xs) m ≡ Some v))
        → ((m n : ℕ) → slice_get (vertices_among c xs) m ≡ Some u → slice_get (vertices_among c xs) n ≡ Some v → m ≡ n) → i ≡ j
    go (inl s) (inl t) k = one-giver x (kind_at c x) i j u v s t a f
    go (inl s) (inr t) k = absurd (d.0 (subst (λ z. In z xs) (sym e ∙ here i u s) (among-node c xs t.0 v t.2)))
    go (inr s) (inl t) k = absurd (d.0 (subst (λ z. In z xs) (e ∙ here j v t) (among-node c xs s.0 u s.2)))
    go (inr s) (inr t) k = s.1 ∙ (ap (λ m. length (vertices_of x (kind_at c x)) + m) (k s.0 t.0 s.2 t.2) ∙ sym t.1)

-- so in a block two places whose vertices give one node's value are one
pub same-giver : (c : Code) (b i j : ℕ) (u v : Vertex) → slice_get (vertices_in c b) i ≡ Some u → slice_get (vertices_in c b) j ≡ Some v
    → u.node ≡ v.node → is_ask u.half ≡ false → is_ask v.half ≡ false → i ≡ j
same-giver c b i j u v = same-place c (nodes_in c b) (distinct-filter (λ x. block_at c x == b) (node_numbers c) (distinct-below (length c.nodes))) i j u v

-- ---- both ends of an edge are places

-- the first law of the type of a block's graph
pub edges-within : (c : Code) (vs : List Vertex) → all_of (λ e. nat_lt e.0 (length vs) && nat_lt e.1 (length vs)) (edges_among c vs) ≡ true
edges-within c vs = in-all (λ (e : ℕ × ℕ). nat_lt e.0 (length vs) && nat_lt e.1 (length vs)) (edges_among c vs) (λ e i. both e (in-fed c vs e i))
  where
    both : (e : ℕ × ℕ) → Fed c vs e.0 e.1 → (nat_lt e.0 (length vs) && nat_lt e.1 (length vs)) ≡ true
    both e f =
        let i : e.0 < length vs = slice_get_within vs e.0 f.giver f.at_giver in
        let j : e.1 < length vs = slice_get_within vs e.1 f.taker f.at_taker in
        let p : nat_lt e.0 (length vs) ≡ true = grind (arith, tests) in
        let q : nat_lt e.1 (length vs) ≡ true = grind (arith, tests) in
        rw (p, q) refl
