use Rattle.std.proofs.Common.{[]}
use Rattle.tam_list.specs.Listings.{code_text}
use Rattle.tam_list.specs.Told.{told_of}
use Rattle.tam_list.proofs.Appending.{more-below}
use Rattle.tam_list.proofs.blocks.print_blocks.Goals as goal

pub loop-code-preserved : goal.loop-code-preserved
loop-code-preserved c =
    more-below (code_text (told_of c.args.told) c.args.g.now) [] c.loop-code.code _ _ c.loop-code.invariant c.in_ok-push_code.ensures.ok
