use Rattle.std.proofs.Common.{◌≡◌, ◌++◌, ◌+◌, ◌*◌, ◌-◌, drop, flat_map}
use Rattle.tam_print.proofs.Texts.{item_text}
use Rattle.tam_print.proofs.block.+blocks.Given as goal

abbrev pub decreases-push_block : goal.decreases-push_block
decreases-push_block l = 2 * l.nesting

abbrev pub decreases-push_branches : goal.decreases-push_branches
decreases-push_branches l = 2 * l.nesting + 1

abbrev pub invariant-push_block-loop-x : goal.invariant-push_block-loop-x
invariant-push_block-loop-x l =
    l.text.items ++ flat_map (item_text l.g l.code (l.nesting - 1)) (drop l.x-index l.list)
    ≡ l.initial.text.items ++ flat_map (item_text l.g l.code (l.nesting - 1)) l.list
