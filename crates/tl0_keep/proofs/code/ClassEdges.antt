-- In a block no more pairs of classes are directly one before the other than its vertices take values.
use Rattle.std.proofs.Common.{◌≡◌, ℕ, ◌*◌, ◌≤◌, [], ◌∷◌, Bool, true, false, not, ◌==◌, ◌&&◌, List, map, filter, flat_map, length, slice_get, Some}
use Rattle.std.proofs.Common.{refl, sym, ap, subst, ◌∙◌, arith}
use Rattle.std.specs.List.{sum_by}
use Rattle.std.proofs.lemmas.Option.{slice_get_within}
use Rattle.std.proofs.lemmas.List.{length-map}
use Rattle.tam_word.specs.Lists.{below}
use Rattle.tam_word.proofs.Tests.{both-true, number-eq}
use Rattle.tam_word.proofs.Members.{In, Distinct, in-flat_map, flat_map-in, in-map, map-in, in-filter, any-in, below-in, distinct-below, distinct-filter}
use Rattle.std.proofs.lemmas.List.Sums.{sum_by-cons}
use Rattle.tam_graph.specs.declared.kind.Kind.{Kind}
use Rattle.tam_graph.specs.declared.kind.Kind.TheVariants.{Op as Operator, Seq, Arg, Give, Alloc, Fetch, Store, Cond, Switch as Choose, Leave}
use Rattle.tam_graph.specs.Graphs.{Code, kind_at, operands_of}
use Rattle.tam_graph.proofs.FewNodes.{length-below}
use Rattle.tam_split.specs.declared.vertex.Vertex.{Vertex}
use Rattle.tam_split.specs.Blocks.{BlockGraph, block_graph, vertex_at, vertices_in, taken_by, is_ask, is_answer}
use Rattle.tam_split.specs.Partitions.{Parts, class_of, class_edges, directly_before}
use Rattle.tam_split.proofs.BlockEdges.{in-fed, same-giver}
use Rattle.tam_split.proofs.BlockPaths.{feeds-node}
use Rattle.tam_split.proofs.BlockVertices.{at-vertex}
use Rattle.tl0_keep.proofs.code.DistinctLists.{distinct-flat, distinct-map}
use Rattle.tl0_keep.proofs.code.Sums.{sum-least, few-by, length-flat_sum}

-- two pairs whose parts are the same
pair-one : (p q : ℕ × ℕ) → p.0 ≡ q.0 → p.1 ≡ q.1 → p ≡ q
pair-one (a, b) (c, d) e f = rw (e, f) refl

module _ (c : Code) (b : ℕ) (parts : Parts) where
  -- the graph of the block
  abbrev graph : BlockGraph
  graph = block_graph c b

  -- the classes directly behind class k
  abbrev pub behind : ℕ → List ℕ
  behind k = filter (λ d. directly_before graph.edges parts k d) (below (length parts))

  -- the pairs of classes, the first directly before the second
  abbrev pairs : List (ℕ × ℕ)
  pairs = flat_map (λ k. map (λ d. (k, d)) (behind k)) (below (length parts))

  -- the nodes whose values a vertex takes, by its place
  abbrev pub takes : ℕ → List ℕ
  takes j = taken_by c (vertex_at graph j)

  -- each beside the place
  abbrev operands : List (ℕ × ℕ)
  operands = flat_map (λ j. map (λ x. (j, x)) (takes j)) (below (length graph.vertices))

  -- the pair of classes comes from a value that is taken
  record Comes (p q : ℕ × ℕ) : Type 0 where
    place : ℕ
    giver : Vertex
    at : slice_get (vertices_in c b) place ≡ Some giver
    gives : is_ask giver.half ≡ false
    node : giver.node ≡ q.1
    from : class_of parts place ≡ p.0
    into : class_of parts q.0 ≡ p.1

  -- from one value one pair
  comes-one : (p r q : ℕ × ℕ) → Comes p q → Comes r q → p ≡ r
  comes-one p r q s t =
      let e : s.place ≡ t.place = same-giver c b s.place t.place s.giver t.giver s.at t.at (s.node ∙ sym t.node) s.gives t.gives in
      pair-one p r (sym s.from ∙ (ap (class_of parts) e ∙ t.from)) (sym s.into ∙ t.into)

  -- each pair comes from one
  comes : (p : ℕ × ℕ) → In p pairs → (q : ℕ × ℕ) × In q operands × Comes p q
  comes p m =
      let r = in-flat_map (λ k. map (λ d. (k, d)) (behind k)) p (below (length parts)) m in
      let s = in-map (λ d. (r.0, d)) p (behind r.0) r.2 in
      let f = in-filter (λ d. directly_before graph.edges parts r.0 d) s.0 (below (length parts)) s.1 in
      let a = any-in (λ (e : ℕ × ℕ). (e.0 == r.0) && (e.1 == s.0)) (class_edges parts graph.edges) f.1 in
      let w = in-filter (λ (e : ℕ × ℕ). not (e.0 == e.1)) a.0 (map (λ (e : ℕ × ℕ). (class_of parts e.0, class_of parts e.1)) graph.edges) a.1 in
      let u = in-map (λ (e : ℕ × ℕ). (class_of parts e.0, class_of parts e.1)) a.0 graph.edges w.0 in
      let v = in-fed c (vertices_in c b) u.0 u.1 in
      let n = feeds-node c v.giver v.taker v.fed in
      let t = both-true _ _ a.2 in
      let x : (class_of parts u.0.0 ≡ r.0) = ap (λ (e : ℕ × ℕ). e.0) u.2 ∙ number-eq a.0.0 r.0 t.0 in
      let y : (class_of parts u.0.1 ≡ s.0) = ap (λ (e : ℕ × ℕ). e.1) u.2 ∙ number-eq a.0.1 s.0 t.1 in
      let k : takes u.0.1 ≡ taken_by c v.taker = ap (taken_by c) (at-vertex c b u.0.1 v.taker v.at_taker) in (
        (u.0.1, v.giver.node),
        flat_map-in (λ j. map (λ z. (j, z)) (takes j)) u.0.1 (u.0.1, v.giver.node) (below (length graph.vertices))
            (below-in u.0.1 (length graph.vertices) (slice_get_within (vertices_in c b) u.0.1 v.taker v.at_taker))
            (map-in (λ z. (u.0.1, z)) v.giver.node (takes u.0.1) (subst (In v.giver.node) (sym k) n.1)),
        record {
          place = u.0.0;
          giver = v.giver;
          at = v.at_giver;
          gives = n.0;
          node = refl;
          from = x ∙ ap (λ (e : ℕ × ℕ). e.0) s.2;
          into = y ∙ ap (λ (e : ℕ × ℕ). e.1) s.2;
        },
      )

  -- no pair stands twice
  pairs-distinct : Distinct pairs
  pairs-distinct =
      distinct-flat (λ k. map (λ d. (k, d)) (behind k)) (below (length parts)) (distinct-below (length parts))
      (λ k m. distinct-map (λ d. (k, d)) (behind k)
      (distinct-filter (λ d. directly_before graph.edges parts k d) (below (length parts)) (distinct-below (length parts)))
      (λ x y i j e. ap (λ (q : ℕ × ℕ). q.1) e))
      (λ k l z i j p q.
      let r = in-map (λ d. (k, d)) z (behind k) p in
      let s = in-map (λ d. (l, d)) z (behind l) q in
      ap (λ (w : ℕ × ℕ). w.0) (r.2 ∙ sym s.2))

  -- so they are few
  pub edges-few : sum_by (λ k. length (behind k)) (below (length parts)) ≤ sum_by (λ j. length (takes j)) (below (length graph.vertices))
  edges-few =
      let f = few-by Comes pairs operands pairs-distinct comes comes-one in
      let a = length-flat_sum {Y = ℕ × ℕ} (λ k. map (λ d. (k, d)) (behind k)) (below (length parts)) in
      let l = sum-least (λ k. length (behind k)) (λ k. length (map {B = ℕ × ℕ} (λ d. (k, d)) (behind k))) (below (length parts))
      (λ k m. let e = length-map {B = ℕ × ℕ} (behind k) (λ d. (k, d)) in omega (arith, e)) in
      let o = length-flat_sum {Y = ℕ × ℕ} (λ j. map (λ x. (j, x)) (takes j)) (below (length graph.vertices)) in
      let q = sum-least (λ j. length (map {B = ℕ × ℕ} (λ x. (j, x)) (takes j))) (λ j. length (takes j)) (below (length graph.vertices))
      (λ j m. let e = length-map {B = ℕ × ℕ} (takes j) (λ x. (j, x)) in omega (arith, e)) in
      omega (arith, f, a, l, o, q)

  -- a node has three operands at most
  operands-few : (k : Kind) → length (operands_of c k) ≤ 3
  operands-few (Operator o x y) = omega arith
  operands-few (Seq x y) = omega arith
  operands-few (Arg f k x) = omega arith
  operands-few (Give k x) = omega arith
  operands-few (Alloc n) = omega arith
  operands-few (Fetch x i) = omega arith
  operands-few (Store x i v) = omega arith
  operands-few (Cond p y n) = omega arith
  operands-few (Choose d k x) = omega arith
  operands-few (Leave k x) = omega arith
  operands-few k = omega arith

  -- so a block's vertices take three values each at most
  pub takes-few : sum_by (λ j. length (takes j)) (below (length graph.vertices)) ≤ 3 * length graph.vertices
  takes-few =
      let s = most (below (length graph.vertices)) in
      let l = length-below (length graph.vertices) in
      omega (arith, s, l)
    where
      one : (j : ℕ) → length (takes j) ≤ 3
      one j = go (is_answer (vertex_at graph j).half)
        where
          go : (t : Bool) → length {A = ℕ} (elim t [ true ↦ [] | false ↦ operands_of c (kind_at c (vertex_at graph j).node) ]) ≤ 3
          go true = omega arith
          go false = operands-few (kind_at c (vertex_at graph j).node)

      most : (xs : List ℕ) → sum_by (λ j. length (takes j)) xs ≤ 3 * length xs
      most [] = omega arith
      most (x ∷ xs) =
          let i = most xs in
          let o = one x in
          let a = sum_by-cons (λ j. length (takes j)) x xs in
          omega (arith, i, o, a)
