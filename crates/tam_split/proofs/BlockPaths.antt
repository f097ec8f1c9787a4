-- What reaches what in a block: an edge runs from what gives an operand to what takes it.
use Rattle.std.proofs.Common.{◌≡◌, ℕ, List, Bool, true, false, refl, sym, subst, inl, inr, ◌⊎◌, ⊎_elim, ◌∙◌, true≢false}
use Rattle.std.proofs.Common.{Some, slice_get}
use Rattle.tam_word.proofs.Members.{In, has-in, in-has}
use Rattle.tam_split.specs.declared.vertex.Vertex.{Vertex}
use Rattle.tam_graph.specs.Edges.{reaches}
use Rattle.tam_graph.specs.Graphs.{Code}
use Rattle.tam_graph.proofs.Reaching.{reaches-trans}
use Rattle.tam_graph.proofs.Walks.{edge-reaches, reaches-walk, last-edge, is_edge}
use Rattle.tam_split.specs.Blocks.{block_graph, vertices_in, edges_among, feeds, taken_by, is_ask}
use Rattle.tam_split.proofs.BlockEdges.{in-fed, fed-in, is_edge-in}
use Rattle.tam_split.proofs.BlockGraphs.{in-is_edge}

-- an edge runs between places, and its start gives what its end takes
abbrev pub IsEdgeOf : Code → List Vertex → ℕ → ℕ → Type 0
IsEdgeOf c vs i j = (u v : Vertex) × (slice_get vs i ≡ Some u) × (slice_get vs j ≡ Some v) × (feeds c u v ≡ true)

-- an edge in the list
pub edge-of : (c : Code) (vs : List Vertex) (i j : ℕ) → is_edge (edges_among c vs) i j ≡ true → IsEdgeOf c vs i j
edge-of c vs i j h = let f = in-fed c vs (i, j) (is_edge-in (edges_among c vs) i j h) in (f.giver, f.taker, f.at_giver, f.at_taker, f.fed)

-- and each such pair is an edge
pub of-edge : (c : Code) (vs : List Vertex) (i j : ℕ) → IsEdgeOf c vs i j → is_edge (edges_among c vs) i j ≡ true
of-edge c vs i j (u, v, p, q, f) =
    in-is_edge (edges_among c vs) i j (fed-in c vs i j (record { giver = u; taker = v; at_giver = p; at_taker = q; fed = f }))

-- what gives an operand's value
pub feeds-node : (c : Code) (u v : Vertex) → feeds c u v ≡ true → (is_ask u.half ≡ false) × In u.node (taken_by c v)
feeds-node c u v h = go (is_ask u.half) refl
  where
    go : (b : Bool) → is_ask u.half ≡ b → (is_ask u.half ≡ false) × In u.node (taken_by c v)
    go true e = absurd (true≢false (sym (rw (feeds, e) at h)))
    go false e = (e, has-in (taken_by c v) u.node (rw (feeds, e) at h))

-- and the other way round
pub node-feeds : (c : Code) (u v : Vertex) → is_ask u.half ≡ false → In u.node (taken_by c v) → feeds c u v ≡ true
node-feeds c u v e a = rw (feeds, e) (in-has (taken_by c v) u.node a)

module _ (c : Code) (b : ℕ) where
  -- vertex v stands at place i of the block
  abbrev pub IsAt : ℕ → Vertex → Type 0
  IsAt i v = slice_get (vertices_in c b) i ≡ Some v

  -- an inlet that reaches what gives an operand's value reaches the vertex that takes it
  pub reaches-taker : (i k j : ℕ) (u v : Vertex) → IsAt k u → IsAt j v → is_ask u.half ≡ false → In u.node (taken_by c v)
      → reaches (block_graph c b).edges i k ≡ true → reaches (block_graph c b).edges i j ≡ true
  reaches-taker i k j u v p q e a r =
      reaches-trans (block_graph c b).edges i k j r
      (edge-reaches (block_graph c b).edges k j (of-edge c (vertices_in c b) k j (u, v, p, q, node-feeds c u v e a)))

  -- what reaches a vertex is the vertex, or reaches what gives one of its operands' values
  pub reaches-operand : (i j : ℕ) (v : Vertex) → IsAt j v → reaches (block_graph c b).edges i j ≡ true
      → (i ≡ j) ⊎ ((k : ℕ) × (u : Vertex) × IsAt k u × (is_ask u.half ≡ false) × In u.node (taken_by c v) × (reaches (block_graph c b).edges i k ≡ true))
  reaches-operand i j v q r = ⊎_elim inl (λ l. inr (through l.0 l.1 (edge-of c (vertices_in c b) l.0 j l.2)))
      (last-edge (reaches-walk (block_graph c b).edges i j r))
    where
      through : (k : ℕ) → reaches (block_graph c b).edges i k ≡ true → IsEdgeOf c (vertices_in c b) k j
          → (k : ℕ) × (u : Vertex) × IsAt k u × (is_ask u.half ≡ false) × In u.node (taken_by c v) × (reaches (block_graph c b).edges i k ≡ true)
      through k s (u, w, p, o, f) =
          let n = feeds-node c u w f in
          let same : w ≡ v = some-same w v (sym o ∙ q) in
          (k, u, p, n.0, subst (λ z. In u.node (taken_by c z)) same n.1, s)
        where
          some-same : (x y : Vertex) → ◌≡◌ {A = _} (Some x) (Some y) → x ≡ y
          some-same x y h = cc
