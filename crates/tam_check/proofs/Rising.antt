-- Where ranks rise from the sources of each node to it, no node reaches itself.
use Rattle.std.proofs.Common.{◌≡◌, ℕ, ◌<◌, ◌≤◌, true, nat_lt, List, [], ◌∷◌, refl, arith}
use Rattle.tam_word.proofs.Tests.{test-below}
use Rattle.tam_word.proofs.Members.{In, all-in, below-in, one-first}
use Rattle.tam_graph.specs.Graphs.{Code, node_numbers, nodes_in}
use Rattle.tam_graph.specs.Edges.{reaches_itself, Walk, Stay, Along}
use Rattle.tam_graph.specs.Accepted.{value_edges, on_cycle}
use Rattle.tam_check.specs.Sources.{sources_of, rank_of, rises_to, rises}
use Rattle.tam_check.proofs.BlockEdges.{edge-source, edge-in, goes-walk}

module _ (c : Code) (ranks : List ℕ) (rising : rises c ranks ≡ true) (b : ℕ) where
  -- an edge rises
  edge-rises : (a y : ℕ) → In {X = ℕ × ℕ} (a, y) (value_edges c b) → rank_of ranks a < rank_of ranks y
  edge-rises a y m =
      let s = edge-source c b a y m in
      let node = all-in (rises_to c ranks) (node_numbers c) rising y (below-in y _ s.0) in
      test-below (rank_of ranks a) (rank_of ranks y) (all-in (λ z. nat_lt (rank_of ranks z) (rank_of ranks y)) (sources_of c y) node a s.2)

  -- a walk doesn't fall
  walk-rises : {x y : ℕ} → Walk (value_edges c b) x y → rank_of ranks x ≤ rank_of ranks y
  walk-rises Stay = omega arith
  walk-rises (Along {x} {y} e w) = let first = edge-rises x y (edge-in (value_edges c b) x y e) in let rest = walk-rises w in omega (arith, first, rest)

  -- so no node reaches itself
  none-itself : (x : ℕ) → reaches_itself (value_edges c b) x ≡ true → ⊥
  none-itself x h =
      let r = goes-walk (value_edges c b) x x h in
      let first = edge-rises x r.0 r.1 in
      let rest = walk-rises r.2 in
      absurd (omega (arith, first, rest))

  -- and no block has such a node
  pub rising-none : on_cycle c b ≡ []
  rising-none = go (on_cycle c b) refl
    where
      go : (xs : List ℕ) → on_cycle c b ≡ xs → on_cycle c b ≡ []
      go [] e = e
      go (x ∷ xs) e = absurd (none-itself x (one-first (reaches_itself (value_edges c b)) (nodes_in c b) x xs e).1)
