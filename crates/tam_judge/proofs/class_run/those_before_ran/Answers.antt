use Rattle.std.proofs.Common.{◌≡◌, ◌∙◌, sym, ℕ, true, false, ◌<◌, length, add-one, arith}
use Rattle.tam_word.specs.Lists.{below}
use Rattle.tam_word.proofs.AllOf.{all_of-fails}
use Rattle.tam_word.proofs.Members.{has-below}
use Rattle.tam_split.specs.Partitions.{directly_before}
use Rattle.tam_flow.specs.Journals.{has_run}
use Rattle.tam_judge.specs.Machines.{state_of}
use Rattle.tam_judge.proofs.AnyOf.{all-next, asked-fails, asked-passes, not-asked}
use Rattle.tam_judge.proofs.class_run.those_before_ran.Goals as goal
use Rattle.tam_judge.proofs.class_run.those_before_ran.Goals.{else-is_directly_before-via-then-is_directly_before+else-not-has_run}
use Rattle.tam_judge.proofs.class_run.those_before_ran.Goals.{else-is_directly_before-via-else-is_directly_before}

pub returns-then-not-has_run : goal.returns-then-not-has_run
returns-then-not-has_run c =
    let comes = λ (d : ℕ). directly_before c.args.graph.now.edges c.args.parts.now d c.args.run.class in
    let ran = λ (d : ℕ). has_run (state_of c.args.machine.now) c.args.run.act c.args.run.block d in
    let k = c.loop-class.class in
    let inside : k < length c.args.parts.now = omega (arith, c.loop-class-test.true, c.classes-class-end.ensures.value) in
    let before : comes k ≡ true = sym (rw c.edges.ensures.value at c.is_directly_before.ensures.value) ∙ c.if-is_directly_before.true in
    let not_run : ran k ≡ false = sym c.has_run.ensures.value ∙ c.if-not-has_run.true in
    record {
      value = sym (all_of-fails (λ d. elim (comes d) [ true ↦ ran d | false ↦ true ]) k (asked-fails (comes k) (ran k) before not_run)
          (below (length c.args.parts.now)) (has-below (length c.args.parts.now) k inside));
    }

pub loop-class-preserved : goal.loop-class-preserved
loop-class-preserved c =
    let comes = λ (d : ℕ). directly_before c.args.graph.now.edges c.args.parts.now d c.args.run.class in
    let ran = λ (d : ℕ). has_run (state_of c.args.machine.now) c.args.run.act c.args.run.block d in
    let k = c.loop-class.class in
    let passes : elim (comes k) [ true ↦ ran k | false ↦ true ] ≡ true = elim c.else-is_directly_before.branch [
      | else-is_directly_before-via-then-is_directly_before+else-not-has_run w ↦
          asked-passes (comes k) (ran k) (sym w.has_run.ensures.value ∙ w.if-not-has_run.false)
      | else-is_directly_before-via-else-is_directly_before w ↦
          not-asked (comes k) (ran k) (sym (rw c.edges.ensures.value at c.is_directly_before.ensures.value)
          ∙ w.if-is_directly_before.false)
    ] in
    rw add-one (all-next (λ d. elim (comes d) [ true ↦ ran d | false ↦ true ]) k c.loop-class.invariant passes)
