use Rattle.std.proofs.Common.{◌≡◌, drop}
use Rattle.tam_word.specs.Lists.{first_of}
use Rattle.tam_order.specs.ClassOrders.{is_free}
use Rattle.tam_order.proofs.firing.first_free.Given as goal

abbrev pub invariant-loop-place : goal.invariant-loop-place
invariant-loop-place l =
    first_of (is_free l.preceding l.members l.taken) (drop l.place-index l.class) ≡ first_of (is_free l.preceding l.members l.taken) l.class
