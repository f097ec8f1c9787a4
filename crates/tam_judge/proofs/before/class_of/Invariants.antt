use Rattle.std.proofs.Common.{◌≡◌, ◌+◌, drop}
use Rattle.tam_split.specs.Partitions.{class_of}
use Rattle.tam_judge.proofs.before.class_of.Given as goal

abbrev pub invariant-loop-k : goal.invariant-loop-k
invariant-loop-k l = l.k + class_of (drop l.k l.parts) l.place ≡ class_of l.parts l.place
