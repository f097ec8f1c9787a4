use Rattle.std.proofs.Common.{◌≡◌, map}
use Rattle.tam_word.specs.Lists.{below}
use Rattle.tl0_emit.specs.Emitting.{partitions_of}
use Rattle.tam_run.proofs.GraphPartitions.{parts-at}
use Rattle.tam_run.proofs.compiling.compile.Given as goal

abbrev pub invariant-loop-code : goal.invariant-loop-code
invariant-loop-code l = partitions_of l.parts.items ≡ map (parts-at l.g) (below l.code)
