use Rattle.std.proofs.Common.{◌≡◌, ◌++◌, ◌-◌, ◌≤◌, length, replicate, vec_len}
use Rattle.tam_world.proofs.activation.lengthen.Given as goal

abbrev pub invariant-loop-blank : goal.invariant-loop-blank
invariant-loop-blank g l = record {
  blanks : l.list.items ≡ l.fn.list.items ++ replicate (length l.list.items - length l.fn.list.items) l.blank;
  least : length l.fn.list.items ≤ length l.list.items;
  most : length l.list.items ≤ l.wanted;
}

abbrev pub decreases-loop-blank : goal.decreases-loop-blank
decreases-loop-blank g l = l.wanted - vec_len l.list
