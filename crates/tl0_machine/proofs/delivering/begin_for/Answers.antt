use Rattle.std.proofs.Common.{◌≡◌, ◌≢◌, ◌≤◌, ◌∙◌, length, false, Option, Some, None, sym, subst, refl}
use Rattle.std.specs.Prelude.{IfNone, is_some}
use Rattle.tam_msgs.specs.Runs.{Outcome, Wild_thread}
use Rattle.frame_tables.specs.FrameTables.{live_count}
use Rattle.tl0_code.specs.Machines.{Machine}
use Rattle.tl0_machine.specs.ThreadStates.{machine_of}
use Rattle.tl0_machine.specs.ThreadEvents.{IsWild}
use Rattle.tl0_machine.proofs.Deliveries.{frame-absent}
use Rattle.tl0_machine.proofs.delivering.begin_for.Goals as goal

-- what holds where there is none
none-so : {X P : Type 0} (o : Option X) → is_some o ≡ false → IfNone o P → P
none-so None none p = p
none-so (Some x) none p = absurd cc

pub returns-then-is_none-clause-value : goal.returns-then-is_none-clause-value
returns-then-is_none-clause-value c = λ order printed are.
    let m = machine_of c.args.state.now order printed in
    let beyond : length c.args.table.now.codes ≤ c.args.code = none-so c.counts.result c.if-is_none.ensures c.counts.ensures.none in
    let room : live_count m.table ≢ c.args.limits.now.frames = λ full. c.if-used-limits.false (c.used.ensures.value ∙ full) in
    subst (λ (o : Outcome Machine). IsWild o Wild_thread 0 m)
    (sym (frame-absent c.args.table.now c.args.limits.now m c.args.code c.args.frame c.args.inlet room beyond))
    (refl, refl)
