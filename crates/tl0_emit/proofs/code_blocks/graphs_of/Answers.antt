use Rattle.std.proofs.Common.{◌∙◌, ◌++◌, ◌∷◌, [], ap, ap₂, sym, length, List, arith}
use Rattle.tam_graph.specs.Graphs.{code_of}
use Rattle.tam_split.specs.Blocks.{BlockGraph, block_graph}
use Rattle.tam_graph.proofs.FewBlocks.{few-blocks}
use Rattle.tl0_emit.proofs.NodeSteps.{map-more}
use Rattle.tl0_emit.proofs.code_blocks.graphs_of.Goals as goal

pub overflow_cast-block : goal.overflow_cast-block
overflow_cast-block c =
    let text = c.owners-block-end.ensures.of_text in
    let few = few-blocks text.0 c.code.result.now text.2.written in
    let same = ap length c.owners-block-end.ensures.value in
    omega (arith, few, same, c.loop-block-test.true)

pub loop-block-preserved : goal.loop-block-preserved
loop-block-preserved c =
    c.in_ok-push.ensures.items ∙ (ap₂ (λ (l : List BlockGraph) v. l ++ v ∷ []) c.loop-block.invariant c.in_ok-split.ensures.value
    ∙ sym (map-more (block_graph (code_of c.args.g.now c.args.code)) c.loop-block.block))
