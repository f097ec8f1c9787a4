use Rattle.std.proofs.Common.{◌<◌, ◌∙◌, length, sym, arith}
use Rattle.tam_check.proofs.Marking.{pass-marked, pass-left}
use Rattle.tam_check.proofs.reached.mark_more.Goals as goal
use Rattle.tam_check.proofs.reached.mark_more.Goals.{then-is_new, else-is_new}

pub loop-y-preserved : goal.loop-y-preserved
loop-y-preserved c =
    let low : c.loop-y.y < length c.args.code.now.nodes = omega (arith, c.loop-y-test.true, c.node_count-y-end.ensures.value) in
    elim c.if-is_new.branch [
      | then-is_new w ↦
          rw (w.marks-is, w.grew-is) (pass-marked c.args.code.now c.args.block c.args.from c.args.marks.now c.loop-y.marks c.loop-y.y c.loop-y.grew
          c.loop-y.invariant low (sym c.is_new.ensures.value ∙ w.if-is_new.true))
      | else-is_new w ↦
          rw (w.marks-is, w.grew-is) (pass-left c.args.code.now c.args.block c.args.from c.args.marks.now c.loop-y.marks c.loop-y.y c.loop-y.grew
          c.loop-y.invariant (sym c.is_new.ensures.value ∙ w.if-is_new.false))
    ]
