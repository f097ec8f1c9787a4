use Rattle.std.proofs.Common.{take}
use Rattle.tam_edge.specs.Entries.{NoneNamed}
use Rattle.tam_edge.proofs.entries.position_of.Given as goal

abbrev pub invariant-loop-i : goal.invariant-loop-i
invariant-loop-i g l = NoneNamed (take l.i l.entries) l.name
