use Rattle.std.proofs.Common.{rules, ℕ, ◌≡◌, ◌+◌, ◌-◌, ◌<◌, ◌≤◌, ◌^◌, ◌∙◌, sym, subst, arith, Bool, Ok, Err}
use Rattle.rv_inst.specs.declared.trap_cause.TrapCause.TheVariants.{NoPoll}
use Rattle.rv_host.specs.declared.stop_rv.StopRv.{StopRv}
use Rattle.rv_host.specs.declared.stop_rv.StopRv.TheVariants.{Trap as Traps}
use Rattle.rv_host.specs.HostStates.{host_of}
use Rattle.rv_host.specs.HostEvents.{StepsOnce, Reaches}
use Rattle.rv_host.proofs.Onward.{GoesOnward, onward-step, onward-polls, onward-stops, onward-ends}
use Rattle.rv_host.proofs.Running.{onward-far, all-done, has-called, has-trapped}
use Rattle.rv_host.proofs.Ways.{step-traps}
use Rattle.rv_host.proofs.calls.run_to_poll.Goals as goal

pub loop-left-preserved-in-Done : goal.loop-left-preserved-in-Done
loop-left-preserved-in-Done c =
    let l = c.loop-left in
    let new = c.run-run.new.self in
    let room : l.rv.steps + l.left < 2 ^ 64 = omega (arith, l.invariant.steps, c.requires.few) in
    let d = all-done l.left c.run-run.result.done l.rv new room c.run-run.result.last c.run-run.ensures.value c.in-Done.is in
    let none : l.left - l.left ≡ 0 = omega arith in
    record {
      goes =
          subst (λ (n : ℕ). GoesOnward c.args.most n c.args.state.now l.state c.args.rv.now new) none
          (onward-far c.args.most l.left c.args.state.now l.state c.args.rv.now l.rv l.invariant.goes l.left new (omega arith) d.comes);
      beside = l.invariant.beside;
      steps = omega (arith, d.steps, l.invariant.steps);
    }

pub returns-in_err-serve-in-Ecall-clause-value : goal.returns-in_err-serve-in-Ecall-clause-value
returns-in_err-serve-in-Ecall-clause-value c =
    let l = c.loop-left in
    let new = c.run-run.new.self in
    let done = c.run-run.result.done in
    let room : l.rv.steps + l.left < 2 ^ 64 = omega (arith, l.invariant.steps, c.requires.few) in
    let d = has-called l.left done l.rv new room c.run-run.result.last c.run-run.ensures.value c.in-Ecall.is in
    let far = onward-far c.args.most l.left c.args.state.now l.state c.args.rv.now l.rv l.invariant.goes done d.before (omega (arith, d.less)) d.comes in
    let some : 0 < l.left - done = omega (arith, d.less) in
    let stop : StopRv = c.in_err-serve-in-Ecall.field-0.0 in
    let given : c.from_residual.result ≡ Err stop = search rules in
    subst (Reaches c.args.most c.args.state.now c.serve.new.state c.args.rv.now new) (sym given)
    (onward-stops c.args.most (l.left - done) c.args.state.now l.state c.serve.new.state c.args.rv.now d.before new some far stop
    (λ n order printed live are. c.in_err-serve-in-Ecall.ensures.value n d.before order printed live d.called are))

pub returns-in_err-serve-in-Ecall-clause-steps : goal.returns-in_err-serve-in-Ecall-clause-steps
returns-in_err-serve-in-Ecall-clause-steps c =
    let l = c.loop-left in
    let room : l.rv.steps + l.left < 2 ^ 64 = omega (arith, l.invariant.steps, c.requires.few) in
    let d = has-called l.left c.run-run.result.done l.rv c.run-run.new.self room c.run-run.result.last c.run-run.ensures.value c.in-Ecall.is in
    omega (arith, d.steps, d.less, l.invariant.steps)

pub returns-then-branch-clause-value : goal.returns-then-branch-clause-value
returns-then-branch-clause-value c =
    let l = c.loop-left in
    let new = c.run-run.new.self in
    let done = c.run-run.result.done in
    let room : l.rv.steps + l.left < 2 ^ 64 = omega (arith, l.invariant.steps, c.requires.few) in
    let d = has-called l.left done l.rv new room c.run-run.result.last c.run-run.ensures.value c.in-Ecall.is in
    let far = onward-far c.args.most l.left c.args.state.now l.state c.args.rv.now l.rv l.invariant.goes done d.before (omega (arith, d.less)) d.comes in
    let some : 0 < l.left - done = omega (arith, d.less) in
    onward-polls c.args.most (l.left - done) c.args.state.now l.state c.serve.new.state c.args.rv.now d.before new some far
    (subst (λ (b : Bool). StepsOnce l.state c.serve.new.state d.before new (Ok b)) c.if-branch.true
    (λ n order printed live are. c.in_ok-serve-in-Ecall.ensures.value n d.before order printed live d.called are))

pub returns-then-branch-clause-steps : goal.returns-then-branch-clause-steps
returns-then-branch-clause-steps c =
    let l = c.loop-left in
    let room : l.rv.steps + l.left < 2 ^ 64 = omega (arith, l.invariant.steps, c.requires.few) in
    let d = has-called l.left c.run-run.result.done l.rv c.run-run.new.self room c.run-run.result.last c.run-run.ensures.value c.in-Ecall.is in
    omega (arith, d.steps, d.less, l.invariant.steps)

pub loop-left-preserved : goal.loop-left-preserved
loop-left-preserved c =
    let l = c.loop-left in
    let new = c.run-run.new.self in
    let done = c.run-run.result.done in
    let room : l.rv.steps + l.left < 2 ^ 64 = omega (arith, l.invariant.steps, c.requires.few) in
    let d = has-called l.left done l.rv new room c.run-run.result.last c.run-run.ensures.value c.in-Ecall.is in
    let far = onward-far c.args.most l.left c.args.state.now l.state c.args.rv.now l.rv l.invariant.goes done d.before (omega (arith, d.less)) d.comes in
    let some : 0 < l.left - done = omega (arith, d.less) in
    let left_is : l.left - done - 1 ≡ l.left - (done + 1) = omega arith in
    record {
      goes =
          subst (λ (n : ℕ). GoesOnward c.args.most n c.args.state.now c.serve.new.state c.args.rv.now new) left_is
          (onward-step c.args.most (l.left - done) c.args.state.now l.state c.serve.new.state c.args.rv.now d.before new some far
          (subst (λ (b : Bool). StepsOnce l.state c.serve.new.state d.before new (Ok b)) c.if-branch.false
          (λ n order printed live are. c.in_ok-serve-in-Ecall.ensures.value n d.before order printed live d.called are)) c.serve.ensures.pending);
      beside = c.serve.ensures.beside ∙ l.invariant.beside;
      steps = omega (arith, d.steps, d.less, l.invariant.steps);
    }

pub returns-in-Trap-clause-value : goal.returns-in-Trap-clause-value
returns-in-Trap-clause-value c =
    let l = c.loop-left in
    let new = c.run-run.new.self in
    let done = c.run-run.result.done in
    let pc = c.in-Trap.pc in
    let cause = c.in-Trap.cause in
    let room : l.rv.steps + l.left < 2 ^ 64 = omega (arith, l.invariant.steps, c.requires.few) in
    let d = has-trapped l.left done l.rv new room c.run-run.result.last pc cause c.run-run.ensures.value c.in-Trap.is in
    let far = onward-far c.args.most l.left c.args.state.now l.state c.args.rv.now l.rv l.invariant.goes done new (omega (arith, d.less)) d.comes in
    let some : 0 < l.left - done = omega (arith, d.less) in
    onward-stops c.args.most (l.left - done) c.args.state.now l.state l.state c.args.rv.now new new some far (Traps pc cause)
    (λ n order printed live are. record {
      live = live;
      are_live = are;
      leads = step-traps n (host_of l.state new order printed live) pc cause d.trapped;
    })

pub returns-in-Trap-clause-steps : goal.returns-in-Trap-clause-steps
returns-in-Trap-clause-steps c =
    let l = c.loop-left in
    let room : l.rv.steps + l.left < 2 ^ 64 = omega (arith, l.invariant.steps, c.requires.few) in
    let d =
    has-trapped l.left c.run-run.result.done l.rv c.run-run.new.self room c.run-run.result.last c.in-Trap.pc c.in-Trap.cause c.run-run.ensures.value
    c.in-Trap.is in
    omega (arith, d.steps, d.less, l.invariant.steps)

pub returns-clause-value : goal.returns-clause-value
returns-clause-value c =
    let l = c.loop-left in
    let none : l.left ≡ 0 = omega (arith, c.loop-left-test.false) in
    subst (λ (pc : ℕ). Reaches c.args.most c.args.state.now l.state c.args.rv.now l.rv (Err (Traps pc NoPoll))) (sym c.pc.ensures.value)
    (onward-ends c.args.most l.left c.args.state.now l.state c.args.rv.now l.rv none l.invariant.goes)
