use Rattle.std.proofs.Common.{◌≡◌, ◌∙◌, ap, sym, subst, rules, Option, Result, Some, Err}
use Rattle.tam_msgs.specs.declared.step.Step.{Step}
use Rattle.tl0_code.specs.declared.inlet.Inlet.{Inlet}
use Rattle.tl0_code.specs.Machines.{Machine, Progress, put, spend}
use Rattle.tl0_code.specs.ThreadRuns.{as_outcome, word_into}
use Rattle.tl0_machine.specs.declared.stop0.Stop0.{Stop0}
use Rattle.tl0_machine.specs.ThreadStates.{machine_of, state_of, IsProgress}
use Rattle.tl0_machine.specs.ThreadEvents.{IsOutcome}
use Rattle.tl0_machine.proofs.Progressing.{outcome-breaks}
use Rattle.tl0_machine.proofs.Deliveries.{told-beside}
use Rattle.tl0_machine.proofs.delivering.word_into.Goals as goal

pub returns-in_err-spend-clause-value : goal.returns-in_err-spend-clause-value
returns-in_err-spend-clause-value c = λ order printed are.
    let m = machine_of c.args.state.now order printed in
    let n = machine_of c.spend.new.state order printed in
    let to : Inlet = c.in-Some.to in
    let e : Stop0 = c.in_err-spend.field-0.0 in
    let given : c.from_residual.result ≡ Err e = search rules in
    let is : IsProgress (spend (put m c.args.frame to.slot c.args.word) c.args.frame to.thread) n (Err e) =
    subst (λ (k : Machine). IsProgress (spend k c.args.frame to.thread) n (Err e)) (c.put.ensures.value order printed)
    (c.in_err-spend.ensures.value order printed) in
    let broken : IsOutcome (word_into m c.args.frame c.args.inlet c.args.word (Some to)) (state_of c.spend.new.state) order printed (Err e) =
    outcome-breaks (spend (put m c.args.frame to.slot c.args.word) c.args.frame to.thread) m n (state_of c.spend.new.state) order printed e
    (told-beside c.args.state.now c.spend.new.state order printed (c.spend.ensures.beside ∙ c.put.ensures.beside)) is in
    subst (λ (r : Result Step Stop0). IsOutcome (word_into m c.args.frame c.args.inlet c.args.word c.args.to) (state_of c.spend.new.state) order printed r)
    (sym given)
    (subst (λ (o : Option Inlet). IsOutcome (word_into m c.args.frame c.args.inlet c.args.word o) (state_of c.spend.new.state) order printed (Err e))
    (sym c.in-Some.is) broken)

pub returns-clause-value : goal.returns-clause-value
returns-clause-value c = λ order printed are.
    let m = machine_of c.args.state.now order printed in
    let to : Inlet = c.in-Some.to in
    ap (word_into m c.args.frame c.args.inlet c.args.word) c.in-Some.is
    ∙ ap (λ (x : Progress). as_outcome x m)
    (ap (λ (k : Machine). spend k c.args.frame to.thread) (sym (c.put.ensures.value order printed)) ∙ c.in_ok-spend.ensures.value order printed)
