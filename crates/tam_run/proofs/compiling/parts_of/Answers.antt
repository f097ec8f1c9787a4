use Rattle.std.proofs.Common.{◌≤◌, ◌++◌, List, [], ◌∷◌, length, sym, ap, ap₂, ◌∙◌, arith}
use Rattle.tam_graph.specs.Graphs.{code_of}
use Rattle.tam_split.specs.Blocks.{block_graph}
use Rattle.tam_split.specs.Partitions.{Parts, partition_of}
use Rattle.tl0_emit.proofs.ClassFlows.{map-more}
use Rattle.tam_graph.proofs.FewBlocks.{few-blocks}
use Rattle.tam_run.proofs.compiling.parts_of.Goals as goal

pub overflow_cast-block : goal.overflow_cast-block
overflow_cast-block c =
    let code = c.code.result.now in
    let few : length code.owners ≤ 2049 = few-blocks c.owners-block-end.ensures.of_text.0 code c.owners-block-end.ensures.of_text.2.written in
    let same = ap (λ os. length os) c.owners-block-end.ensures.value in
    omega (arith, few, same)

pub loop-block-preserved : goal.loop-block-preserved
loop-block-preserved c =
    let code = code_of c.args.g.now c.args.code in
    let part = c.in_ok-partition.ensures.value ∙ ap partition_of c.in_ok-graph.ensures.value in
    c.in_ok-push.ensures.items
    ∙ (ap₂ (λ (ps : List Parts) (p : Parts). ps ++ p ∷ []) c.loop-block.invariant part
    ∙ sym (map-more (λ b. partition_of (block_graph code b)) c.loop-block.block))
