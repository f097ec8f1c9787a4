use Rattle.std.proofs.Common.{◌≡◌, ◌<◌, ◌∙◌, List, length, sum_by, get_or, subst, sym, ap, arith}
use Rattle.tam_word.specs.Lists.{below}
use Rattle.tam_graph.specs.declared.node.Node.{Node}
use Rattle.tam_graph.specs.Written.{vertices_at}
use Rattle.tam_list.proofs.CodeSizes.{sum-more, vertices-there, vertices-by_nodes, few-at}
use Rattle.tam_list.proofs.counting.vertices_in.Goals as goal

pub loop-node-preserved : goal.loop-node-preserved
loop-node-preserved c =
    let k = c.args.code.now in
    let there : (c.loop-node.node-index < length k.nodes) × (c.node-item.result ≡ get_or k.nodes c.loop-node.node-index c.node-item.result) =
    subst (λ (ns : List Node). (c.loop-node.node-index < length ns) × (c.node-item.result ≡ get_or ns c.loop-node.node-index c.node-item.result))
    c.nodes-nodes.ensures.value
    (c.loop-node-test.true, c.node-item.is) in
    let here = vertices-there k c.loop-node.node-index c.node-item.result c.vertices_of-count.result there.0 there.1 c.vertices_of-count.ensures.value in (
      sum-more (vertices_at k) c.loop-node.node-index _ _ c.loop-node.invariant.0 here,
      omega (arith, c.loop-node.invariant.1, here, few-at k c.loop-node.node-index),
    )

pub returns-clause-value : goal.returns-clause-value
returns-clause-value c =
    let k = c.args.code.now in
    let all : c.loop-node.node-index ≡ length k.nodes =
    let same : length c.nodes-nodes.result.now ≡ length k.nodes = ap length c.nodes-nodes.ensures.value in
    omega arith in
    c.loop-node.invariant.0
    ∙ (ap (λ n. sum_by (vertices_at k) (below n)) all ∙ sym (vertices-by_nodes c.nodes-nodes.ensures.of_text.0 k c.nodes-nodes.ensures.of_text.2.written))
