use Rattle.std.proofs.Common.{◌≡◌, ◌++◌, length, map}
use Rattle.tam_read.specs.Parts.{node_lines}
use Rattle.tam_read.specs.LineView.{numbered}
use Rattle.tam_read.proofs.body.node_lines.Given as goal

abbrev pub invariant-loop-rest : goal.invariant-loop-rest
invariant-loop-rest l = l.found.items ++ node_lines (map numbered l.rest) ≡ node_lines (map numbered l.lines)

abbrev pub decreases-loop-rest : goal.decreases-loop-rest
decreases-loop-rest l = length l.rest
