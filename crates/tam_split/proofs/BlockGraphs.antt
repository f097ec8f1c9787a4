-- A block of an accepted graph is a graph without cycle: a cycle of vertices would be one of nodes.
use Rattle.std.proofs.Common.{◌≡◌, ℕ, ◌<◌, Bool, true, false, refl, sym, subst, ap, inl, inr, ◌⊎◌, ◌∙◌, true≢false, ◌==◌, ◌&&◌, length, slice_get, Some}
use Rattle.std.proofs.lemmas.Option.{same_Some}
use Rattle.tam_word.specs.Lists.{any_of}
use Rattle.tam_word.proofs.Tests.{eq-number}
use Rattle.tam_word.proofs.Members.{In, map-in, flat_map-in, any-in, in-any, get-in}
use Rattle.tam_graph.specs.Graphs.{Code, Graph, code_of, kind_at, nodes_in, operands_of, is_split}
use Rattle.tam_graph.specs.Edges.{Edges, reaches, reaches_itself, has_no_cycle, Walk, Stay, Along}
use Rattle.tam_graph.specs.Accepted.{IsAccepted, edges_to, value_edges}
use Rattle.tam_graph.proofs.Reaching.{reaches-self, reaches-trans}
use Rattle.tam_graph.proofs.Walks.{is_edge, edge-reaches, reaches-walk}
use Rattle.tam_graph.proofs.Uncycled.{none-reaches_itself}
use Rattle.tam_split.specs.declared.vertex.Half.{Half}
use Rattle.tam_split.specs.declared.vertex.Half.TheVariants.{Ask, Answer}
use Rattle.tam_split.specs.declared.vertex.Vertex.{Vertex}
use Rattle.tam_split.specs.Blocks.{block_graph, vertices_in, is_ask, is_answer, feeds, edges_among}
use Rattle.tam_split.specs.PartitionLaws.{IsBlockGraph}
use Rattle.tam_split.proofs.BlockEdges.{in-fed, is_edge-in, feeds-parts, vertex-node, edges-within}

-- neither an ask nor an answer is whole
neither-whole : (h : Half) → is_ask h ≡ false → is_answer h ≡ false → (h ≡ Ask) ⊎ (h ≡ Answer) → ⊥
neither-whole h p q (inl e) = true≢false (sym (ap is_ask e) ∙ p)
neither-whole h p q (inr e) = true≢false (sym (ap is_answer e) ∙ q)

-- the node of a vertex that is neither isn't split
pub not-split : (c : Code) (b : ℕ) (v : Vertex) → In v (vertices_in c b) → is_ask v.half ≡ false → is_answer v.half ≡ false
    → is_split (kind_at c v.node) ≡ false
not-split c b v i p q = go (is_split (kind_at c v.node)) refl
  where
    go : (t : Bool) → is_split (kind_at c v.node) ≡ t → is_split (kind_at c v.node) ≡ false
    go true e = absurd (neither-whole v.half p q ((vertex-node c b v i).1.split e))
    go false e = e

-- an edge of vertices to what isn't an ask is an edge of nodes
pub node-edge : (c : Code) (b : ℕ) (u v : Vertex) → In v (vertices_in c b) → is_ask v.half ≡ false → feeds c u v ≡ true
    → In (u.node, v.node) (value_edges c b)
node-edge c b u v i p f =
    let r = feeds-parts c u v f in
    let s = not-split c b v i p r.1 in
    let taken : In (u.node, v.node) (edges_to c v.node) = rw (edges_to, s) (map-in (λ a. (a, v.node)) u.node (operands_of c (kind_at c v.node)) r.2) in
    flat_map-in (edges_to c) v.node (u.node, v.node) (nodes_in c b) (vertex-node c b v i).0 taken

-- an element of the list is an edge by the test
pub in-is_edge : (es : Edges) (x y : ℕ) → In (x, y) es → is_edge es x y ≡ true
in-is_edge es x y i = in-any (λ e. (e.0 == x) && (e.1 == y)) es (x, y) i (rw (eq-number x x refl, eq-number y y refl) refl)

-- so the one node reaches the other
pub node-reaches : (c : Code) (b : ℕ) (u v : Vertex) → In v (vertices_in c b) → is_ask v.half ≡ false → feeds c u v ≡ true
    → reaches (value_edges c b) u.node v.node ≡ true
node-reaches c b u v i p f = edge-reaches (value_edges c b) u.node v.node (in-is_edge (value_edges c b) u.node v.node (node-edge c b u v i p f))

-- a walk of vertices to one that isn't an ask is a walk of nodes, and meets no ask
pub walk-nodes : (c : Code) (b : ℕ) {i j : ℕ} → Walk (edges_among c (vertices_in c b)) i j → (u v : Vertex) → slice_get (vertices_in c b) i ≡ Some u
    → slice_get (vertices_in c b) j ≡ Some v → is_ask v.half ≡ false → (is_ask u.half ≡ false) × (reaches (value_edges c b) u.node v.node ≡ true)
walk-nodes c b Stay u v p q a =
    let e : u ≡ v = same_Some u v (sym p ∙ q) in (
      ap (λ (w : Vertex). is_ask w.half) e
          ∙ a,
      subst (λ (w : Vertex). reaches (value_edges c b) u.node w.node ≡ true) e (reaches-self (value_edges c b) u.node),
    )
walk-nodes c b (Along {x = i} {y = m} {z = j} e w) u v p q a =
    let f = in-fed c (vertices_in c b) (i, m) (is_edge-in (edges_among c (vertices_in c b)) i m e) in
    let r = walk-nodes c b w f.taker v f.at_taker q a in
    let s : u ≡ f.giver = same_Some u f.giver (sym p ∙ f.at_giver) in
    let g : feeds c u f.taker ≡ true = subst (λ z. feeds c z f.taker ≡ true) (sym s) f.fed in (
      (feeds-parts c u f.taker g).0,
      reaches-trans (value_edges c b) u.node f.taker.node v.node
          (node-reaches c b u f.taker (get-in (vertices_in c b) m f.taker f.at_taker) r.0 g) r.1,
    )

-- a cycle of vertices is one of nodes
pub cycle-nodes : (c : Code) (b : ℕ) (e : ℕ × ℕ) → In e (edges_among c (vertices_in c b)) → reaches (edges_among c (vertices_in c b)) e.1 e.0 ≡ true
    → (x : ℕ) × In x (nodes_in c b) × (reaches_itself (value_edges c b) x ≡ true)
cycle-nodes c b e i h =
    let f = in-fed c (vertices_in c b) e i in
    let p = feeds-parts c f.giver f.taker f.fed in
    let r = walk-nodes c b (reaches-walk (edges_among c (vertices_in c b)) e.1 e.0 h) f.taker f.giver f.at_taker f.at_giver p.0 in
    let at = get-in (vertices_in c b) e.1 f.taker f.at_taker in
    let d = node-edge c b f.giver f.taker at r.0 f.fed in
    let x = f.giver.node in (
      x,
      (vertex-node c b f.giver (get-in (vertices_in c b) e.0 f.giver f.at_giver)).0,
      in-any (λ d. (d.0 == x) && reaches (value_edges c b) d.1 x) (value_edges c b) (x, f.taker.node) d (rw (eq-number x x refl, r.1) refl),
    )

-- the edges of a block
abbrev edges_in : Code → ℕ → Edges
edges_in c b = edges_among c (vertices_in c b)

-- a block of an accepted graph is a graph without cycle
pub accepted-block : (g : Graph) → IsAccepted g → (n b : ℕ) → n < length g.codes → IsBlockGraph (block_graph (code_of g n) b)
accepted-block g accepted n b h = record {
  within = edges-within (code_of g n) (vertices_in (code_of g n) b);
  no_cycle = go (any_of (λ e. reaches (edges_in (code_of g n) b) e.1 e.0) (edges_in (code_of g n) b)) refl;
}
  where
    go : (t : Bool) → any_of (λ e. reaches (edges_in (code_of g n) b) e.1 e.0) (edges_in (code_of g n) b) ≡ t → has_no_cycle (edges_in (code_of g n) b) ≡ true
    go true p =
        let r = any-in (λ (e : ℕ × ℕ). reaches (edges_in (code_of g n) b) e.1 e.0) (edges_in (code_of g n) b) p in
        let s = cycle-nodes (code_of g n) b r.0 r.1 r.2 in
        absurd (true≢false (sym s.2 ∙ none-reaches_itself g accepted n b s.0 h s.1))
    go false p = rw p refl
