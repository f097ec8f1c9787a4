use Rattle.std.proofs.Common.{◌≡◌, filter}
use Rattle.tam_word.specs.Lists.{below, has}
use Rattle.tam_order.proofs.classes.listed.Given as goal

abbrev pub invariant-loop-place : goal.invariant-loop-place
invariant-loop-place l = l.members.items ≡ filter (has l.set) (below l.place)
