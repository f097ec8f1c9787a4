-- Each cond stands in the class of the vertex that gives its operand, in each valid partition of a block in which no pair may be merged.
use Rattle.std.proofs.Common.{◌≡◌, ℕ, true, false, [], ◌∷◌, refl, sym, subst, ap, inl, inr, ◌∙◌, true≢false, length, slice_get, Some}
use Rattle.std.proofs.lemmas.Option.{same_Some, slice_get_within}
use Rattle.tam_word.proofs.Tests.{not-true}
use Rattle.tam_word.proofs.Members.{In, filter-in, in-filter, below-in, get-in}
use Rattle.tam_graph.specs.declared.kind.Kind.{Kind}
use Rattle.tam_graph.specs.declared.kind.Kind.TheVariants.{Cond}
use Rattle.tam_graph.specs.Graphs.{Code, code_of, kind_at, operands_of, is_split, is_inlet, is_outlet}
use Rattle.tam_graph.proofs.Walks.{is_edge}
use Rattle.tam_split.specs.declared.vertex.Vertex.{Vertex}
use Rattle.tam_split.specs.Blocks.{block_graph, vertices_in, vertex_at, places, is_ask, is_answer, feeds}
use Rattle.tam_split.specs.Partitions.{partition_of}
use Rattle.tam_split.specs.PartitionLaws.{CondsStand, CondsStandAnywhere}
use Rattle.tam_split.proofs.Classes.{partition-parts}
use Rattle.tam_split.proofs.Validity.{is_valid-valid}
use Rattle.tam_split.proofs.Conds.{TakesOnly, stand-together}
use Rattle.tam_split.proofs.BlockEdges.{Fed, in-fed, fed-in, is_edge-in, feeds-parts, parts-feed, IsVertexOf, vertex-node, same-giver}
use Rattle.tam_split.proofs.BlockGraphs.{in-is_edge, accepted-block}
use Rattle.tam_split.proofs.Partitioning.{edge-within, partitioned}

-- a vertex of a cond is whole, is an outlet and no inlet
cond-whole : (k : Kind) (p t e x : ℕ) (v : Vertex) → k ≡ Cond p t e → IsVertexOf x k v → (is_answer v.half ≡ false) × (v.inlet ≡ false) × (v.outlet ≡ true)
cond-whole k p t e x v h is =
    let w = is.whole (ap is_split h) in
    (ap is_answer w.0, w.1 ∙ ap is_inlet h, w.2 ∙ ap is_outlet h)

-- what is in a list of one is that one
only-one : (p q : ℕ) → In q (p ∷ []) → q ≡ p
only-one p q (inl e) = sym e
only-one p q (inr b) = absurd b

module _ (c : Code) (b x y p t e : ℕ) (u v : Vertex) (at-y : slice_get (vertices_in c b) y ≡ Some u) (gives : is_ask u.half ≡ false)
    (at-x : slice_get (vertices_in c b) x ≡ Some v) (cond : kind_at c v.node ≡ Cond p t e) (operand : u.node ≡ p) where
  -- the cond is whole, an outlet and no inlet
  cond-parts : (is_answer v.half ≡ false) × (v.inlet ≡ false) × (v.outlet ≡ true)
  cond-parts = cond-whole (kind_at c v.node) p t e v.node v cond (vertex-node c b v (get-in (vertices_in c b) x v at-x)).1

  -- its operand is p alone
  cond-operands : operands_of c (kind_at c v.node) ≡ p ∷ []
  cond-operands = ap (operands_of c) cond

  -- the giver of the operand feeds the cond
  cond-fed : feeds c u v ≡ true
  cond-fed = parts-feed c u v (gives, cond-parts.0, subst (λ xs. In u.node xs) (sym cond-operands) (inl (sym operand)))

  -- and nothing else does
  only-giver : (z : ℕ) → is_edge (block_graph c b).edges z x ≡ true → z ≡ y
  only-giver z h =
      let f = in-fed c (vertices_in c b) (z, x) (is_edge-in (block_graph c b).edges z x h) in
      let s : f.taker ≡ v = same_Some f.taker v (sym f.at_taker ∙ at-x) in
      let r = feeds-parts c f.giver v (subst (λ (w : Vertex). feeds c f.giver w ≡ true) s f.fed) in
      let q = only-one p f.giver.node (subst (λ xs. In f.giver.node xs) cond-operands r.2) in
      same-giver c b z y f.giver u f.at_giver at-y (q ∙ sym operand) r.0 gives

  -- so the cond takes the value of its operand's giver alone, and is an outlet and no inlet
  pub cond-takes : vertex_at (block_graph c b) x ≡ v → TakesOnly (block_graph c b) x y
  cond-takes is = record {
    is_outlet = filter-in (λ z. (vertex_at (block_graph c b) z).outlet) x (places (block_graph c b))
        (below-in x (length (vertices_in c b)) (slice_get_within (vertices_in c b) x v at-x)) (ap (λ (w : Vertex). w.outlet) is ∙ cond-parts.2);
    no_inlet = λ i.
        let r = in-filter (λ z. (vertex_at (block_graph c b) z).inlet) x (places (block_graph c b)) i in
        true≢false (sym r.1 ∙ (ap (λ (w : Vertex). w.inlet) is ∙ cond-parts.1));
    edge =
        let fed : Fed c (vertices_in c b) y x = record { giver = u; taker = v; at_giver = at-y; at_taker = at-x; fed = cond-fed } in
        in-is_edge (block_graph c b).edges y x (fed-in c (vertices_in c b) y x fed);
    only = only-giver;
  }

-- each cond stands with its operand in each valid partition in which no pair may be merged
pub conds_stand-anywhere : CondsStandAnywhere
conds_stand-anywhere g accepted n b ps h is_partition valid none x y p t e at-y gives at-x cond operand =
    let c = code_of g n in
    let bg = block_graph c b in
    let u = vertex_at bg y in
    let v = vertex_at bg x in
    let graph = accepted-block g accepted n b h in
    let takes = cond-takes c b x y p t e u v at-y (not-true (is_ask u.half) gives) at-x cond operand refl in
    stand-together bg (length bg.vertices) ps (partition-parts bg ps is_partition) (is_valid-valid bg ps valid) none (λ d i. (edge-within bg graph d i).1)
    x y takes (slice_get_within bg.vertices y u at-y)

-- so in the partition of a block
pub conds_stand : CondsStand
conds_stand g accepted n b x y p t e h at-y gives at-x cond operand =
    let bg = block_graph (code_of g n) b in
    let d = partitioned bg (accepted-block g accepted n b h) in
    conds_stand-anywhere g accepted n b (partition_of bg) h d.0 d.1 d.2 x y p t e at-y gives at-x cond operand
