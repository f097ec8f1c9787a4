use Rattle.std.proofs.Common.{◌≡◌, ◌++◌, length, map}
use Rattle.tam_read.specs.PartView.{code_of_part}
use Rattle.tam_read.proofs.reading.graph_of.Given as goal

abbrev pub invariant-loop-rest : goal.invariant-loop-rest
invariant-loop-rest l = l.codes.items ++ map code_of_part l.rest ≡ map code_of_part l.parts

abbrev pub decreases-loop-rest : goal.decreases-loop-rest
decreases-loop-rest l = length l.rest
