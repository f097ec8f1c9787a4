use Rattle.std.proofs.Common.{◌≡◌, drop}
use Rattle.tam_word.specs.Lists.{has}
use Rattle.tam_judge.proofs.lists.has.Given as goal

abbrev pub invariant-loop-x : goal.invariant-loop-x
invariant-loop-x l = has (drop l.x-index l.list) l.number ≡ has l.list l.number
