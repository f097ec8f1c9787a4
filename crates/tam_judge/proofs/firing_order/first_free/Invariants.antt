use Rattle.std.proofs.Common.{◌≡◌, drop}
use Rattle.tam_word.specs.Lists.{first_of}
use Rattle.tam_split.specs.GraphPartitions.{waits_for_none}
use Rattle.tam_judge.proofs.firing_order.first_free.Given as goal

abbrev pub invariant-loop-place : goal.invariant-loop-place
invariant-loop-place l = first_of (waits_for_none l.edges l.left) (drop l.place-index l.left) ≡ first_of (waits_for_none l.edges l.left) l.left
