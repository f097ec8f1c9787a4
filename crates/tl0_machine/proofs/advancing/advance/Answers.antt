use Rattle.std.proofs.Common.{◌≡◌, sym, subst, false, ◌==◌}
use Rattle.tam_word.proofs.Tests.{differs-number}
use Rattle.tam_msgs.specs.declared.choice.Choice.TheVariants.{Run as Choose_run, Deliver as Choose_delivery}
use Rattle.tam_msgs.specs.Runs.{Outcome}
use Rattle.tl0_code.specs.Machines.{Machine}
use Rattle.tl0_machine.specs.ThreadStates.{state_of, machine_of}
use Rattle.tl0_machine.specs.ThreadEvents.{IsOutcome}
use Rattle.tl0_machine.proofs.Choosing.{chosen-is, step-run, step-deliver}
use Rattle.tl0_machine.proofs.advancing.advance.Goals as goal

pub returns-in-Run-clause-value : goal.returns-in-Run-clause-value
returns-in-Run-clause-value c = λ printed marked.
    let m = machine_of c.args.state.now c.args.order.now printed in
    let unspent : (m.events == c.args.limits.now.budget) ≡ false = differs-number m.events c.args.limits.now.budget c.if-state-limits.false in
    let is =
    chosen-is m c.ready-ready.result c.len-pending.result c.ready-ready.ensures.value c.len-pending.ensures.value (Choose_run, c.choose.new.self)
    c.in-Run.ensures.value in
    subst (λ (o : Outcome Machine). IsOutcome o (state_of c.run_next.new.state) c.choose.new.self printed c.run_next.result)
    (sym (step-run c.args.table.now c.args.limits.now m c.choose.new.self unspent is))
    (c.run_next.ensures.value c.choose.new.self c.args.order.now printed marked)

pub returns-in-Deliver-clause-value : goal.returns-in-Deliver-clause-value
returns-in-Deliver-clause-value c = λ printed marked.
    let m = machine_of c.args.state.now c.args.order.now printed in
    let unspent : (m.events == c.args.limits.now.budget) ≡ false = differs-number m.events c.args.limits.now.budget c.if-state-limits.false in
    let is =
    chosen-is m c.ready-ready.result c.len-pending.result c.ready-ready.ensures.value c.len-pending.ensures.value
    (Choose_delivery c.in-Deliver.place, c.choose.new.self) c.in-Deliver.ensures.value in
    subst (λ (o : Outcome Machine). IsOutcome o (state_of c.deliver_at.new.state) c.choose.new.self printed c.deliver_at.result)
    (sym (step-deliver c.args.table.now c.args.limits.now m c.choose.new.self unspent c.in-Deliver.place is))
    (c.deliver_at.ensures.value c.choose.new.self c.args.order.now printed marked)
