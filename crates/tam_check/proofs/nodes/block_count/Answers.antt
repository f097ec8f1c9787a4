use Rattle.std.proofs.Common.{arith}
use Rattle.tam_graph.proofs.FewNodes.{block-below, few-nodes}
use Rattle.tam_graph.proofs.FewBlocks.{blocks-by-nodes}
use Rattle.tam_check.proofs.nodes.block_count.Goals as goal

pub returns-clause-within : goal.returns-clause-within
returns-clause-within c = rw c.owners.ensures.value (λ x l. block-below _ c.args.code.now c.nodes.ensures.of_text.2.written x l)

pub returns-clause-few : goal.returns-clause-few
returns-clause-few c =
    let written = c.nodes.ensures.of_text.2.written in
    let blocks = blocks-by-nodes _ c.args.code.now written in
    let nodes = few-nodes _ c.args.code.now written in
    rw c.owners.ensures.value (omega (arith, blocks, nodes))
