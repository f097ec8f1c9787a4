use Rattle.std.proofs.Common.{◌≡◌, ◌∙◌, sym, subst, false, ◌==◌, List}
use Rattle.std.proofs.lemmas.List.{length-map}
use Rattle.tam_world.specs.Kept.{pair_of}
use Rattle.tam_word.proofs.Tests.{differs-number}
use Rattle.tam_msgs.specs.declared.item.Item.{Item}
use Rattle.tam_msgs.specs.declared.choice.Choice.{Choice}
use Rattle.tam_msgs.specs.declared.choice.Choice.TheVariants.{Run as Choose_run, Deliver as Choose_delivery}
use Rattle.tam_msgs.specs.Runs.{Outcome}
use Rattle.tam_eval.specs.GraphRuns.{GraphState}
use Rattle.tam_eval.specs.Machines.{state_of}
use Rattle.tam_eval.specs.Events.{IsOutcome, IsAnswerOf}
use Rattle.tam_eval.proofs.Choosing.{chosen-is, step-run, step-deliver, run-goes, delivery-goes}
use Rattle.tam_eval.proofs.advancing.advance.Goals as goal

pub returns-in-Run-clause-outcome : goal.returns-in-Run-clause-outcome
returns-in-Run-clause-outcome c = λ printed.
    let s = state_of c.args.machine.now in
    let chosen = chosen-is s c.args.order.now c.choose.new.self Choose_run c.is_empty-ready.result c.args.machine.now.ready.len c.len-pending.result
    c.is_empty-ready.ensures (c.args.machine.now.ready.ok.0 ∙ sym (length-map c.args.machine.now.ready.items pair_of))
    c.len-pending.ensures.value c.in-Run.ensures.value in
    let unspent : (s.events == c.args.limits.now.budget) ≡ false = differs-number s.events c.args.limits.now.budget c.if-machine-budget.false in
    subst (λ (o : Outcome GraphState). IsOutcome o (state_of c.run_first.new.machine) c.choose.new.self printed c.run_first.result)
    (sym (step-run c.args.program.now c.args.limits.now s c.args.order.now c.choose.new.self printed chosen unspent))
    (c.run_first.ensures.outcome c.choose.new.self c.args.order.now printed)

pub returns-in-Run-clause-chosen : goal.returns-in-Run-clause-chosen
returns-in-Run-clause-chosen c =
    let s = state_of c.args.machine.now in
    let chosen = chosen-is s c.args.order.now c.choose.new.self Choose_run c.is_empty-ready.result c.args.machine.now.ready.len c.len-pending.result
    c.is_empty-ready.ensures (c.args.machine.now.ready.ok.0 ∙ sym (length-map c.args.machine.now.ready.items pair_of))
    c.len-pending.ensures.value c.in-Run.ensures.value in
    subst (λ (p : Choice × List Item). IsAnswerOf p.0 c.run_first.result) (sym chosen) c.run_first.ensures.goes

pub returns-in-Run-clause-quiet : goal.returns-in-Run-clause-quiet
returns-in-Run-clause-quiet c = run-goes _ _ _ _ c.run_first.result c.run_first.ensures.goes

pub returns-in-Deliver-clause-outcome : goal.returns-in-Deliver-clause-outcome
returns-in-Deliver-clause-outcome c = λ printed.
    let s = state_of c.args.machine.now in
    let chosen = chosen-is s c.args.order.now c.choose.new.self
    (Choose_delivery c.in-Deliver.place) c.is_empty-ready.result c.args.machine.now.ready.len c.len-pending.result c.is_empty-ready.ensures
    (c.args.machine.now.ready.ok.0 ∙ sym (length-map c.args.machine.now.ready.items pair_of))
    c.len-pending.ensures.value c.in-Deliver.ensures.value in
    let unspent : (s.events == c.args.limits.now.budget) ≡ false = differs-number s.events c.args.limits.now.budget c.if-machine-budget.false in
    subst (λ (o : Outcome GraphState). IsOutcome o (state_of c.deliver_at.new.machine) c.choose.new.self printed c.deliver_at.result)
    (sym (step-deliver c.args.program.now c.args.limits.now s c.args.order.now c.choose.new.self printed c.in-Deliver.place chosen unspent))
    (c.deliver_at.ensures.outcome c.choose.new.self c.args.order.now printed)

pub returns-in-Deliver-clause-chosen : goal.returns-in-Deliver-clause-chosen
returns-in-Deliver-clause-chosen c =
    let s = state_of c.args.machine.now in
    let chosen = chosen-is s c.args.order.now c.choose.new.self
    (Choose_delivery c.in-Deliver.place) c.is_empty-ready.result c.args.machine.now.ready.len c.len-pending.result c.is_empty-ready.ensures
    (c.args.machine.now.ready.ok.0 ∙ sym (length-map c.args.machine.now.ready.items pair_of))
    c.len-pending.ensures.value c.in-Deliver.ensures.value in
    subst (λ (p : Choice × List Item). IsAnswerOf p.0 c.deliver_at.result) (sym chosen) c.deliver_at.ensures.goes

pub returns-in-Deliver-clause-quiet : goal.returns-in-Deliver-clause-quiet
returns-in-Deliver-clause-quiet c = delivery-goes _ _ _ _ c.deliver_at.result c.deliver_at.ensures.goes
