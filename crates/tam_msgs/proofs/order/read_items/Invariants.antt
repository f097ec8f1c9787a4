use Rattle.std.proofs.Common.{◌≡◌, ◌+◌, ◌≤◌, length}
use Rattle.std.specs.List.{slice_split}
use Rattle.tam_msgs.specs.Orders.{is_joint, items_from}
use Rattle.tam_msgs.proofs.OrderPieces.{items_before}
use Rattle.tam_msgs.proofs.order.read_items.Given as goal

abbrev pub invariant-loop-item : goal.invariant-loop-item
invariant-loop-item l = record {
  so_far : items_before l.items.items (items_from (length l.items.items) (slice_split is_joint l.rest)) ≡ items_from 0 (slice_split is_joint l.text);
  room : length l.items.items + length l.rest ≤ length l.text;
}

abbrev pub decreases-loop-item : goal.decreases-loop-item
decreases-loop-item l = length l.rest
