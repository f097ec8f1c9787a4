use Rattle.tam_msgs.proofs.OrderPieces.{parts_at}
use Rattle.tam_msgs.specs.Orders.{is_joint}
use Rattle.tam_msgs.proofs.order.split_piece.Goals as goal

pub returns-in-None-clause-pieces : goal.returns-in-None-clause-pieces
returns-in-None-clause-pieces c = parts_at is_joint c.args.text.now _ 0 c.in-None.ensures.value

pub returns-in-Some-clause-pieces : goal.returns-in-Some-clause-pieces
returns-in-Some-clause-pieces c = parts_at is_joint c.args.text.now _ 0 c.in-Some.ensures.value
