use Rattle.tam_split.specs.KeptParts.{HaveEach}
use Rattle.tam_judge_tests.proofs.partitions.classes.Given as goal

abbrev pub invariant-loop-b : goal.invariant-loop-b
invariant-loop-b l = HaveEach 7 l.parts

abbrev pub invariant-loop-a : goal.invariant-loop-a
invariant-loop-a l = HaveEach 7 l.parts
