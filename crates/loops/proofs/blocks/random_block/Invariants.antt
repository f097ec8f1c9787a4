use Rattle.std.proofs.Common.{◌≡◌, length}
use Rattle.tam_split.specs.RisingEdges.{RisingEdges}
use Rattle.loops.proofs.blocks.random_block.Given as goal

abbrev pub invariant-loop-place : goal.invariant-loop-place
invariant-loop-place l = (length l.vertices.items ≡ l.place) × RisingEdges l.count l.edges.items
