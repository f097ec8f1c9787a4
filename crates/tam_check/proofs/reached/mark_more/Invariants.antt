use Rattle.tam_check.proofs.Marking.{IsPass}
use Rattle.tam_check.proofs.reached.mark_more.Given as goal

abbrev pub invariant-loop-y : goal.invariant-loop-y
invariant-loop-y l = IsPass l.code l.block l.from l.initial.marks l.marks l.y l.grew
