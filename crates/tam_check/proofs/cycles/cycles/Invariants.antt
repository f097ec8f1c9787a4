use Rattle.tam_check.proofs.CycleTable.{AreCyclesBelow}
use Rattle.tam_check.proofs.cycles.cycles.Given as goal

abbrev pub invariant-loop-block : goal.invariant-loop-block
invariant-loop-block l = AreCyclesBelow l.code l.block l.cycles.items
