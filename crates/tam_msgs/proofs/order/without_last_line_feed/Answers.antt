use Rattle.std.proofs.Common.{arith}
use Rattle.tam_msgs.proofs.OrderPieces.{last_dropped, last_kept}
use Rattle.tam_msgs.proofs.order.without_last_line_feed.Goals as goal

pub returns-then-text-last-eq10-clause-value : goal.returns-then-text-last-eq10-clause-value
returns-then-text-last-eq10-clause-value c = last_dropped c.args.text.now _ (omega arith) c.if-text-last-eq10.true

pub returns-else-text-last-eq10-clause-value : goal.returns-else-text-last-eq10-clause-value
returns-else-text-last-eq10-clause-value c = last_kept c.args.text.now _ (omega arith) c.if-text-last-eq10.false
