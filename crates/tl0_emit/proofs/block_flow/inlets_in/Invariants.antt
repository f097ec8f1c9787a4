use Rattle.std.proofs.Common.{◌≡◌, ◌+◌, drop, count_by}
use Rattle.tam_split.specs.Blocks.{vertex_at}
use Rattle.tl0_keep.specs.Compiled.{inlets_in}
use Rattle.tl0_emit.proofs.block_flow.inlets_in.Given as goal

abbrev pub invariant-loop-place : goal.invariant-loop-place
invariant-loop-place l = l.count + count_by (λ x. (vertex_at l.b x).inlet) (drop l.place-index l.class) ≡ inlets_in l.b l.class
