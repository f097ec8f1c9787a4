use Rattle.std.proofs.Common.{◌≡◌, refl, Some, length, add-one}
use Rattle.std.specs.Prelude.{slice_get}
use Rattle.std.proofs.lemmas.Option.{slice_get_read}
use Rattle.tam_print.proofs.ListLemmas.{below-next}
use Rattle.tam_print.proofs.block.blocks_of.Goals as goal

pub loop-x-preserved : goal.loop-x-preserved
loop-x-preserved c =
    let nodes = c.nodes-nodes.result.now in
    let there : slice_get c.args.code.now.nodes c.loop-x.x ≡ Some c.index-nodes-x.result =
    rw c.nodes-nodes.ensures.value at (slice_get_read nodes (length nodes) c.loop-x.x c.index-nodes-x.result refl c.loop-x-test.true c.index-nodes-x.is) in
    rw add-one (below-next c.args.code.now c.loop-x.blocks.items c.add.new.blocks.items c.loop-x.x c.index-nodes-x.result there
    c.loop-x.invariant c.in_ok-add.ensures.ok)
