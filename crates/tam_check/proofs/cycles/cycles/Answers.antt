use Rattle.std.proofs.Common.{◌≡◌, ◌<◌, ℕ, length, arith}
use Rattle.tam_graph.specs.Graphs.{block_at}
use Rattle.tam_check.proofs.CycleTable.{AreCyclesBelow, cycles-all}
use Rattle.tam_check.proofs.cycles.cycles.Goals as goal

pub returns : goal.returns
returns c =
    let blocks = c.block_count-block-end.ensures.value in
    let same : c.loop-block.block ≡ length c.args.code.now.owners = omega (arith, c.loop-block-test.false, blocks, c.loop-block.auto.block-end) in
    let all : AreCyclesBelow c.args.code.now (length c.args.code.now.owners) c.loop-block.cycles.items = rw same at c.loop-block.invariant in
    let within : (x : ℕ) → x < length c.args.code.now.nodes
    → block_at c.args.code.now x < length c.args.code.now.owners = rw blocks at c.block_count-block-end.ensures.within in
    record { value = cycles-all c.args.code.now c.loop-block.cycles.items all within }
