use Rattle.std.proofs.Common.{◌≡◌, map}
use Rattle.tam_word.specs.Lists.{below}
use Rattle.tam_graph.specs.Graphs.{code_of}
use Rattle.tam_split.specs.Blocks.{block_graph}
use Rattle.tl0_emit.proofs.code_blocks.graphs_of.Given as goal

abbrev pub invariant-loop-block : goal.invariant-loop-block
invariant-loop-block l = l.graphs.items ≡ map (block_graph (code_of l.g l.code)) (below l.block)
