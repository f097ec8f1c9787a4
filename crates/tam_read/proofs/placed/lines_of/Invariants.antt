use Rattle.std.proofs.Common.{◌≡◌, ◌++◌, length, map}
use Rattle.tam_read.specs.LinesView.{of_code}
use Rattle.tam_read.specs.PartView.{lines_of_part}
use Rattle.tam_read.proofs.placed.lines_of.Given as goal

abbrev pub invariant-loop-rest : goal.invariant-loop-rest
invariant-loop-rest l = map of_code l.codes.items ++ map lines_of_part l.rest ≡ map lines_of_part l.parts

abbrev pub decreases-loop-rest : goal.decreases-loop-rest
decreases-loop-rest l = length l.rest
