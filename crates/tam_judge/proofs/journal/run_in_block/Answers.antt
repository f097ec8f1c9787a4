use Rattle.std.proofs.Common.{◌∙◌, sym, arith}
use Rattle.tam_judge.specs.Machines.{state_of}
use Rattle.tam_judge.proofs.CheckedRuns.{no-class, ran-before, not-entered}
use Rattle.tam_judge.proofs.journal.run_in_block.Goals as goal
use Rattle.tam_judge.proofs.journal.run_in_block.Goals.{then-run-classes-via-then-run-classes}
use Rattle.tam_judge.proofs.journal.run_in_block.Goals.{then-run-classes-via-else-run-classes+then-has_run}
use Rattle.tam_judge.proofs.journal.run_in_block.Goals.{then-run-classes-via-else-run-classes+else-has_run+then-not-has_entered}

pub returns-then-run-classes : goal.returns-then-run-classes
returns-then-run-classes c =
    let g = c.args.g.now in
    let s = state_of c.args.machine.now in
    let r = c.args.run in
    let p = c.args.parts.now in
    record {
      value = λ all are. elim c.then-run-classes.branch [
        | then-run-classes-via-then-run-classes w ↦ no-class g all s r.act r.block r.class p are (omega (arith, w.if-run-classes.true, c.classes.ensures.value))
        | then-run-classes-via-else-run-classes+then-has_run w ↦ ran-before g all s r.act r.block r.class p are
            (sym w.has_run.ensures.value ∙ w.if-has_run.true)
        | then-run-classes-via-else-run-classes+else-has_run+then-not-has_entered w ↦ not-entered g all s r.act r.block r.class p are
            (sym w.has_entered.ensures.value ∙ w.if-not-has_entered.true)
      ];
    }

pub returns : goal.returns
returns c = record { value = rw c.requires.program at c.run_if_ready.ensures.value }
