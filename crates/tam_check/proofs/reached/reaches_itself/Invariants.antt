use Rattle.std.proofs.Common.{◌+◌, cond}
use Rattle.tam_check.specs.Sources.{unmarked}
use Rattle.tam_check.proofs.Marking.{IsMarking}
use Rattle.tam_check.proofs.reached.reaches_itself.Given as goal

abbrev pub invariant-loop-grew : goal.invariant-loop-grew
invariant-loop-grew l = IsMarking l.code l.block l.x l.marks.items l.grew

abbrev pub decreases-loop-grew : goal.decreases-loop-grew
decreases-loop-grew l = unmarked l.marks.items + cond l.grew 1 0
