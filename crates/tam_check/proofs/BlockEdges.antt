-- The edges within a block: from each source of a node to the node.
use Rattle.std.proofs.Common.{◌≡◌, ℕ, ◌<◌, Bool, true, false, ◌==◌, ◌&&◌, length, map, refl, sym, ap, subst}
use Rattle.tam_word.proofs.Tests.{number-eq, eq-number, self-eq, both-true, true-both}
use Rattle.tam_word.proofs.Members.{In, map-in, in-map, filter-in, in-filter, flat_map-in, in-flat_map, below-in, in-below, any-in, in-any}
use Rattle.tam_graph.specs.Graphs.{Code, kind_at, block_at, node_numbers, nodes_in, is_split}
use Rattle.tam_graph.specs.Edges.{Edges, reaches, Walk}
use Rattle.tam_graph.specs.Accepted.{edges_to, value_edges}
use Rattle.tam_graph.proofs.Reaching.{reaches-self, reaches-trans}
use Rattle.tam_graph.proofs.Walks.{is_edge, edge-reaches, reaches-walk}
use Rattle.tam_check.specs.Sources.{sources_of, goes}

-- the edges to a node come from its sources
edges-sources : (c : Code) (x : ℕ) → edges_to c x ≡ map (λ a. (a, x)) (sources_of c x)
edges-sources c x = go (is_split (kind_at c x)) refl
  where
    go : (b : Bool) → is_split (kind_at c x) ≡ b → edges_to c x ≡ map (λ a. (a, x)) (sources_of c x)
    go true e = rw (edges_to, sources_of, e) refl
    go false e = rw (edges_to, sources_of, e) refl

module _ (c : Code) (b : ℕ) where
  -- a source of a node of the block
  pub source-edge : (a y : ℕ) → y < length c.nodes → block_at c y ≡ b → In a (sources_of c y) → In {X = ℕ × ℕ} (a, y) (value_edges c b)
  source-edge a y l e m =
      flat_map-in (edges_to c) y (a, y) (nodes_in c b) (filter-in (λ z. block_at c z == b) y (node_numbers c) (below-in y (length c.nodes) l)
      (eq-number (block_at c y) b e))
      (subst (In {X = ℕ × ℕ} (a, y)) (sym (edges-sources c y)) (map-in (λ z. (z, y)) a (sources_of c y) m))

  -- there are no others
  pub edge-source : (a y : ℕ) → In {X = ℕ × ℕ} (a, y) (value_edges c b) → (y < length c.nodes) × (block_at c y ≡ b) × In a (sources_of c y)
  edge-source a y m =
      let r = in-flat_map (edges_to c) (a, y) (nodes_in c b) m in
      let s = in-filter (λ z. block_at c z == b) r.0 (node_numbers c) r.1 in
      let t = in-map (λ z. (z, r.0)) (a, y) (sources_of c r.0) (subst (In {X = ℕ × ℕ} (a, y)) (edges-sources c r.0) r.2) in
      let same : r.0 ≡ y = ap (λ (e : ℕ × ℕ). e.1) t.2 in
      let start : t.0 ≡ a = ap (λ (e : ℕ × ℕ). e.0) t.2 in (
        subst (λ z. z < length c.nodes) same (in-below r.0 (length c.nodes) s.0),
        subst (λ z. block_at c z ≡ b) same (number-eq (block_at c r.0) b s.1),
        subst (λ z. In z (sources_of c y)) start (subst (λ z. In t.0 (sources_of c z)) same t.1),
      )

-- an edge passes its test
pub in-edge : (es : Edges) (a y : ℕ) → In {X = ℕ × ℕ} (a, y) es → is_edge es a y ≡ true
in-edge es a y m = in-any (λ e. (e.0 == a) && (e.1 == y)) es (a, y) m (true-both (a == a) (y == y) (self-eq a) (self-eq y))

-- and what passes the test is an edge
pub edge-in : (es : Edges) (a y : ℕ) → is_edge es a y ≡ true → In {X = ℕ × ℕ} (a, y) es
edge-in es a y h =
    let r = any-in (λ (e : ℕ × ℕ). (e.0 == a) && (e.1 == y)) es h in
    let t = both-true (r.0.0 == a) (r.0.1 == y) r.2 in
    subst (λ z. In {X = ℕ × ℕ} (a, z) es) (number-eq r.0.1 y t.1) (subst (λ z. In {X = ℕ × ℕ} (z, r.0.1) es) (number-eq r.0.0 a t.0) r.1)

-- one goes by an edge
pub goes-edge : (es : Edges) (x y : ℕ) → In {X = ℕ × ℕ} (x, y) es → goes es x y ≡ true
goes-edge es x y m = in-any (λ e. (e.0 == x) && reaches es e.1 y) es (x, y) m (true-both (x == x) (reaches es y y) (self-eq x) (reaches-self es y))

-- and on by a further one
pub goes-on : (es : Edges) (x y z : ℕ) → goes es x y ≡ true → In {X = ℕ × ℕ} (y, z) es → goes es x z ≡ true
goes-on es x y z h m =
    let r = any-in (λ (e : ℕ × ℕ). (e.0 == x) && reaches es e.1 y) es h in
    let t = both-true (r.0.0 == x) (reaches es r.0.1 y) r.2 in
    in-any (λ e. (e.0 == x) && reaches es e.1 z) es r.0 r.1
    (true-both (r.0.0 == x) (reaches es r.0.1 z) t.0 (reaches-trans es r.0.1 y z t.1 (edge-reaches es y z (in-edge es y z m))))

-- what begins with an edge goes on by a walk
pub goes-walk : (es : Edges) (x y : ℕ) → goes es x y ≡ true → (z : ℕ) × In {X = ℕ × ℕ} (x, z) es × Walk es z y
goes-walk es x y h =
    let r = any-in (λ (e : ℕ × ℕ). (e.0 == x) && reaches es e.1 y) es h in
    let t = both-true (r.0.0 == x) (reaches es r.0.1 y) r.2 in
    (r.0.1, subst (λ z. In {X = ℕ × ℕ} (z, r.0.1) es) (number-eq r.0.0 x t.0) r.1, reaches-walk es r.0.1 y t.1)
