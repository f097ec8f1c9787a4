use Rattle.std.proofs.Common.{◌<◌, length, arith}
use Rattle.tam_order.proofs.Rows.{has-at}
use Rattle.tam_order.proofs.firing.first_free.Goals as goal

pub is_free-requires : goal.is_free-requires
is_free-requires c =
    let there : c.loop-place.place-index < length c.args.class.now = omega arith in
    record { inside = c.requires.inside _ (has-at c.args.class.now c.loop-place.place-index there) }
