use Rattle.std.proofs.Common.{◌≡◌, map}
use Rattle.tam_word.specs.Lists.{below}
use Rattle.tam_split.specs.Partitions.{class_of}
use Rattle.tam_quotient.proofs.block.classes_of.Given as goal

abbrev pub invariant-loop-place : goal.invariant-loop-place
invariant-loop-place l = l.classes.items ≡ map (class_of l.p) (below l.place)
