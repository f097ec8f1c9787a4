use Rattle.std.proofs.Common.{◌≡◌, ◌≢◌, ℕ, sym, subst, arith}
use Rattle.frame_tables.specs.FrameTables.{slot_in}
use Rattle.tl0_code.specs.Machines.{spend}
use Rattle.tl0_machine.specs.ThreadStates.{machine_of, IsProgress}
use Rattle.tl0_machine.proofs.Spending.{branch-yes}
use Rattle.tl0_machine.proofs.threads.switch.Goals as goal

pub returns-then-word-eq0-clause-value : goal.returns-then-word-eq0-clause-value
returns-then-word-eq0-clause-value c = λ order printed.
    let m = machine_of c.args.state.now order printed in
    let none : slot_in m.table c.args.f c.args.s ≡ 0 = omega (arith, c.word.ensures.value) in
    rw none (c.spend.ensures.value order printed)

pub returns-else-word-eq0-clause-value : goal.returns-else-word-eq0-clause-value
returns-else-word-eq0-clause-value c = λ order printed.
    let m = machine_of c.args.state.now order printed in
    let some : slot_in m.table c.args.f c.args.s ≢ 0 = λ z. absurd (omega (arith, z, c.word.ensures.value)) in
    subst (λ (t : ℕ). IsProgress (spend m c.args.f t) (machine_of c.spend-else-word-eq0.new.state order printed) c.spend-else-word-eq0.result)
    (sym (branch-yes (slot_in m.table c.args.f c.args.s) c.args.yes c.args.no some)) (c.spend-else-word-eq0.ensures.value order printed)
