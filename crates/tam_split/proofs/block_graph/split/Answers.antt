use Rattle.std.proofs.Common.{◌≡◌, ◌≤◌, ◌∙◌, sym, ap, ap₂, subst, length, List}
use Rattle.tam_graph.specs.Graphs.{Code, Graph, code_of}
use Rattle.tam_split.specs.declared.vertex.Vertex.{Vertex}
use Rattle.tam_split.specs.Blocks.{block_graph, vertices_in, edges_among}
use Rattle.tam_split.specs.KeptParts.{IsSmallBlock}
use Rattle.tam_split.proofs.Vertices.{few-vertices}
use Rattle.tam_split.proofs.BlockGraphs.{accepted-block}
use Rattle.tam_split.proofs.block_graph.split.Goals as goal

pub edges_among-requires : goal.edges_among-requires
edges_among-requires c =
    let g = c.args.g.now in
    let code : c.code-code.result.now ≡ code_of g c.args.code = c.code-code.ensures.value ∙ ap (λ (h : Graph). code_of h c.args.code) c.graph.ensures.value in
    let vertices : c.in_ok-vertices.vertices.items ≡ vertices_in (code_of g c.args.code) c.args.block = c.in_ok-vertices.ensures.value ∙ ap
    (λ (k : Code). vertices_in k c.args.block) code in
    let few : length (vertices_in (code_of g c.args.code) c.args.block) ≤ 512 =
    few-vertices g c.graph.ensures.accepted c.args.code c.args.block c.requires.in_range.0 c.requires.in_range.1 in
    record { few = subst (λ (vs : List Vertex). length vs ≤ 512) (sym (c.deref.ensures.value ∙ vertices)) few }

pub invariant_of-result : goal.invariant_of-result
invariant_of-result c =
    let g = c.args.g.now in
    let code : c.code-code.result.now ≡ code_of g c.args.code = c.code-code.ensures.value ∙ ap (λ (h : Graph). code_of h c.args.code) c.graph.ensures.value in
    let vertices : c.in_ok-vertices.vertices.items ≡ vertices_in (code_of g c.args.code) c.args.block = c.in_ok-vertices.ensures.value ∙ ap
    (λ (k : Code). vertices_in k c.args.block) code in
    let edges : c.in_ok-edges.edges.items ≡ edges_among (code_of g c.args.code) (vertices_in (code_of g c.args.code) c.args.block) =
    c.in_ok-edges.ensures.value ∙ ap₂ (λ (k : Code) (vs : List Vertex). edges_among k vs) code (c.deref.ensures.value ∙ vertices) in
    let few : length (vertices_in (code_of g c.args.code) c.args.block) ≤ 512 =
    few-vertices g c.graph.ensures.accepted c.args.code c.args.block c.requires.in_range.0 c.requires.in_range.1 in
    let small : IsSmallBlock (block_graph (code_of g c.args.code) c.args.block) = record {
      few = few;
      block =
          accepted-block g c.graph.ensures.accepted c.args.code c.args.block c.requires.in_range.0;
    } in
    rw (vertices, edges) small
