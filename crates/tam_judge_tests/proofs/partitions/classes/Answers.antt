use Rattle.std.proofs.Common.{◌<◌, ◌-◌, arith, length, sym, subst}
use Rattle.tam_split.specs.Partitions.{Parts}
use Rattle.tam_split.specs.KeptParts.{HaveEach}
use Rattle.tam_judge_tests.proofs.WholeBlocks.{have_each-merged}
use Rattle.tam_judge_tests.proofs.partitions.classes.Goals as goal

pub loop-b-preserved-then-eq : goal.loop-b-preserved-then-eq
loop-b-preserved-then-eq c =
    let in_order : c.loop-a.a < c.loop-b.b - 1 = omega (arith, c.loop-b-test.true, c.loop-b.auto.b) in
    let in_range : c.loop-b.b - 1 < length c.loop-b.parts = omega (arith, c.if-b-classes.true, c.classes.ensures.value) in
    subst (λ (ps : Parts). HaveEach 7 ps) (sym c.merge.ensures.value)
    (have_each-merged 7 c.loop-b.parts c.loop-b.invariant c.loop-a.a (c.loop-b.b - 1) in_order in_range)
