use Rattle.std.proofs.Common.{take}
use Rattle.tam_split.specs.Takers.{TakeTheSame}
use Rattle.tam_split.proofs.gathering.taken_by_each.Given as goal

abbrev pub invariant-loop-vertex : goal.invariant-loop-vertex
invariant-loop-vertex l = TakeTheSame l.code (take l.vertex-index l.vertices) l.taken.items
