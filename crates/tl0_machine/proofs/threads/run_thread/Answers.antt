use Rattle.std.proofs.Common.{◌≡◌, sym, subst, rules, Result, Err}
use Rattle.tl0_code.specs.Machines.{Giving, done_all, stopped, done_thread}
use Rattle.tl0_machine.specs.declared.stop0.Stop0.{Stop0}
use Rattle.tl0_machine.specs.ThreadStates.{machine_of, IsProgress}
use Rattle.tl0_machine.proofs.Progressing.{then-goes, then-breaks}
use Rattle.tl0_machine.proofs.threads.run_thread.Goals as goal

pub returns-clause-value : goal.returns-clause-value
returns-clause-value c = λ order printed.
    then-goes (done_all Giving (machine_of c.args.state.now order printed) c.args.f c.args.instrs.now) (λ n. stopped Giving n c.args.f)
    (machine_of c.carry_out_all.new.state order printed) (machine_of c.stop.new.state order printed) c.stop.result
    (c.in_ok-carry_out_all.ensures.value order printed) (c.stop.ensures.value order printed)

pub returns-in_err-carry_out_all-clause-value : goal.returns-in_err-carry_out_all-clause-value
returns-in_err-carry_out_all-clause-value c = λ order printed.
    let m = machine_of c.args.state.now order printed in
    let n = machine_of c.carry_out_all.new.state order printed in
    let e : Stop0 = c.in_err-carry_out_all.field-0.0 in
    let given : c.from_residual.result ≡ Err e = search rules in
    subst (λ (r : Result Unit Stop0). IsProgress (done_thread Giving m c.args.f c.args.instrs.now) n r) (sym given)
    (then-breaks (done_all Giving m c.args.f c.args.instrs.now) (λ k. stopped Giving k c.args.f) n n e (c.in_err-carry_out_all.ensures.value order printed))
