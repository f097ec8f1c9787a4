use Rattle.std.proofs.Common.{◌≡◌, ◌∙◌, ◌++◌, flat_map, slice_get, Some, sym, ap, subst, List}
use Rattle.tam_word.specs.Lists.{below}
use Rattle.tam_graph.specs.declared.node.Node.{Node}
use Rattle.tam_graph.specs.Graphs.{Code, Graph, code_of, or_kind, kind_at, node_where, is_param, params_of}
use Rattle.tam_split.proofs.Gathered.{node-there}
use Rattle.tl0_keep.specs.Compiled.{inlets_at}
use Rattle.tl0_emit.proofs.NodeSteps.{flat-more}
use Rattle.tl0_emit.proofs.node_tables.inlet_nodes_of.Goals as goal

pub loop-node-preserved : goal.loop-node-preserved
loop-node-preserved c =
    let g = c.args.program.now in
    let code = code_of g c.args.code in
    let i = c.loop-node.node in
    let own : c.code-own.result.now ≡ code = c.code-own.ensures.value ∙ ap (λ (h : Graph). code_of h c.args.code) c.graph.ensures.value in
    let there : slice_get code.nodes i ≡ Some c.line-item.result =
    subst (λ (ns : List Node). slice_get ns i ≡ Some c.line-item.result) (c.nodes-line-items.ensures.value ∙ ap (λ (d : Code). d.nodes) own)
    (node-there c.nodes-line-items.result.now i c.line-item.result c.loop-node-test.true c.line-item.is) in
    let kind : kind_at code i ≡ c.line-item.result.kind = ap or_kind there in
    c.in_ok-push_inlets.ensures.ok
    ∙ (ap (λ k. c.loop-node.nodes.items ++ inlets_at g code i k) (sym kind)
    ∙ flat-more (λ x. inlets_at g code x (kind_at code x)) i (flat_map (λ k. node_where code (is_param k)) (below (params_of code)))
    c.loop-node.nodes.items c.loop-node.invariant)
