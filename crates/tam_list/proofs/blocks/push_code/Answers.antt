use Rattle.tam_graph.specs.Graphs.{code_of}
use Rattle.tam_list.specs.Listings.{block_text}
use Rattle.tam_list.specs.Told.{told_of}
use Rattle.tam_list.proofs.Appending.{more-below}
use Rattle.tam_list.proofs.blocks.push_code.Goals as goal

pub loop-block-preserved : goal.loop-block-preserved
loop-block-preserved c =
    more-below (block_text (told_of c.args.told) (code_of c.args.g.now c.args.code)) c.push-4.new.text.items c.loop-block.block _ _ c.loop-block.invariant
    c.in_ok-push_block.ensures.ok
