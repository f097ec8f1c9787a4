use Rattle.std.proofs.Common.{◌≡◌, ◌∙◌, length, ap, sym, arith}
use Rattle.tam_graph.specs.Graphs.{Code, code_of, blocks_of}
use Rattle.tam_graph.proofs.FewNodes.{length-below}
use Rattle.tam_list.proofs.CodeSizes.{sum-more}
use Rattle.tam_list.proofs.counting.count_blocks.Goals as goal

pub loop-code-preserved : goal.loop-code-preserved
loop-code-preserved c =
    let g = c.args.graph.now in
    let here : c.blocks_in-count.result ≡ length (blocks_of (code_of g c.loop-code.code)) =
    c.blocks_in-count.ensures.value ∙ (ap (λ (k : Code). length k.owners) c.code.ensures.value
    ∙ sym (length-below (length (code_of g c.loop-code.code).owners))) in (
      sum-more (λ n. length (blocks_of (code_of g n))) c.loop-code.code _ _ c.loop-code.invariant.0 here,
      omega (arith, c.loop-code.invariant.1, c.blocks_in-count.ensures.few),
    )
