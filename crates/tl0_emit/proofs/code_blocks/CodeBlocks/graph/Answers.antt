use Rattle.std.proofs.Common.{◌∙◌, ap, get_or, length, arith, List}
use Rattle.tam_split.specs.Blocks.{BlockGraph, block_graph}
use Rattle.tl0_emit.specs.CodeParts.{PartedCode}
use Rattle.tl0_emit.proofs.NodeSteps.{map-read}
use Rattle.tl0_emit.proofs.BlockSteps.{graphs-long}
use Rattle.tl0_emit.proofs.code_blocks.CodeBlocks.graph.Goals as goal

pub index-requires : goal.index-requires
index-requires c =
    let l = rw (← c.self.view_is) at c.requires.in_range in
    let e = graphs-long c.self.inside.code.now c.self.inside.graphs.items c.self.invariant.graphs in
    omega (arith, l, e, c.self.inside.graphs.ok.0)

pub returns : goal.returns
returns c =
    let l = rw (← c.self.view_is) at c.requires.in_range in
    let code = c.self.inside.code.now in
    record {
      value = c.index.ensures ∙ (ap (λ (gs : List BlockGraph). get_or gs c.args.block c.index.result.now) c.self.invariant.graphs
          ∙ (map-read (block_graph code) (length code.owners) c.args.block c.index.result.now l
          ∙ ap (λ (p : PartedCode). block_graph p.code c.args.block) c.self.view_is));
    }
