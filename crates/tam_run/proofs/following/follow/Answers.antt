use Rattle.std.proofs.Common.{◌≡◌, ◌≢◌, ℕ, [], refl, sym, ◌∙◌, subst, ⊎_elim}
use Rattle.std.specs.List.{flat_map}
use Rattle.std.specs.Io.KnownBytes.{Appends}
use Rattle.std.proofs.KnownBytes.{Appends-trans}
use Rattle.tam_msgs.specs.declared.stop.Stop.TheVariants as stop
use Rattle.tam_msgs.specs.Runs.{Quiet, Wild, Trap, result_line}
use Rattle.rv_inst.specs.Traps.{trap_text}
use Rattle.tam_run.specs.declared.broken.Broken.TheVariants as broken
use Rattle.tam_run.specs.declared.exec.Exec.TheVariants as exec
use Rattle.tam_run.specs.Accounts.{Account}
use Rattle.tam_run.specs.Ends.{cause_of}
use Rattle.tam_run.specs.HandedOut.{Leaves}
use Rattle.tam_run.specs.Writing.{Writes}
use Rattle.tam_run.proofs.Prefixes.{nothing-taken}
use Rattle.tam_run.proofs.Texts.{line-more, broken-writes, is-no_memory, stop-ends}
use Rattle.tam_run.proofs.RunEnds.{ended-writes, ended-executes, ended-leaves, broken-leaves}
use Rattle.tam_run.proofs.following.follow.Goals as goal

pub events-init : goal.events-init
events-init g c = rw c.new-printed.ensures.items (record {
  told = λ a tells. tells;
  taken = nothing-taken (g.K.Sink.taken c.args.out.now);
  counted = refl;
})

pub events-preserved : goal.events-preserved
events-preserved g c =
    let i = c.events.invariant in record {
      told = λ a tells.
          let e = rw c.in-Ok-Printed.field-0-is at (c.in-Ok-Printed.ensures.event c.events.printed.items a (i.told a tells)) in
          rw c.in_default.ensures.noted e.told;
      taken = rw (c.in_default.ensures.noted, line-more c.events.printed.items (c.in-Ok-Printed.place, c.in-Ok-Printed.word))
          (Appends-trans _ _ _ _ _ i.taken c.in_default.ensures.text);
      counted = c.in_default.ensures.counted ∙ i.counted;
    }

pub events-smaller-in-Ok-Ran : goal.events-smaller-in-Ok-Ran
events-smaller-in-Ok-Ran g c =
    let told = c.events.invariant.told c.requires.begun.0 c.requires.begun.1 in
    let e = rw c.in-Ok-Ran.field-0-is at (c.in-Ok-Ran.ensures.event c.events.printed.items c.requires.begun.0 told) in
    e.less

pub events-smaller-in-Ok-Delivered : goal.events-smaller-in-Ok-Delivered
events-smaller-in-Ok-Delivered g c =
    let told = c.events.invariant.told c.requires.begun.0 c.requires.begun.1 in
    let e = rw c.in-Ok-Delivered.field-0-is at (c.in-Ok-Delivered.ensures.event c.events.printed.items c.requires.begun.0 told) in
    e.less

pub events-smaller : goal.events-smaller
events-smaller g c =
    let told = c.events.invariant.told c.requires.begun.0 c.requires.begun.1 in
    let e = rw c.in-Ok-Printed.field-0-is at (c.in-Ok-Printed.ensures.event c.events.printed.items c.requires.begun.0 told) in
    e.less

pub returns-in-Err-clause-text : goal.returns-in-Err-clause-text
returns-in-Err-clause-text g c = λ a tells.
    let i = c.events.invariant in
    let pair : ℕ × ℕ = (c.in-Ok-Printed.place, c.in-Ok-Printed.word) in
    let more = rw c.in-Ok-Printed.field-0-is at (c.in-Ok-Printed.ensures.prefix c.events.printed.items a (i.told a tells)) in
    rw c.outcome_of.ensures.value
    (broken-writes a c.events.printed.items more.0 pair _ _ _ c.in-Err.broken more.1 i.taken c.in-Err.ensures.text)

pub returns-in-Err-clause-machine : goal.returns-in-Err-clause-machine
returns-in-Err-clause-machine g c = λ a tells. rw c.outcome_of.ensures.value (broken-leaves a.machine _ c.in-Err.broken)

pub returns-in-Ok-Quiet-clause-text : goal.returns-in-Ok-Quiet-clause-text
returns-in-Ok-Quiet-clause-text g c = λ a tells.
    let i = c.events.invariant in
    let e = rw c.in-Ok-Quiet.field-0-is at (c.in-Ok-Quiet.ensures.event c.events.printed.items a (i.told a tells)) in
    ended-writes a c.events.printed.items Quiet (g.M.LevelRun.stand c.advance.new.self) e c.args.results c.tally.result (c.requires.results a tells)
    c.tally.ensures.value _ _ _ i.taken c.finish_quiet.result (rw c.deref.ensures.value at c.finish_quiet.ensures.text)

pub returns-in-Ok-Quiet-clause-machine : goal.returns-in-Ok-Quiet-clause-machine
returns-in-Ok-Quiet-clause-machine g c = λ a tells.
    let e = rw c.in-Ok-Quiet.field-0-is at (c.in-Ok-Quiet.ensures.event c.events.printed.items a (c.events.invariant.told a tells)) in
    ended-leaves a c.events.printed.items Quiet (g.M.LevelRun.stand c.advance.new.self) e (exec.Run c.finish_quiet.result)

pub returns-in-Err-Stop-clause-text : goal.returns-in-Err-Stop-clause-text
returns-in-Err-Stop-clause-text g c = λ a tells. ⊎_elim (wanted a tells) (ended a tells) (is-no_memory c.in-Err-Stop.stop)
  where
    Wrote : Account → Type 0
    Wrote a = Writes a (g.K.Sink.taken c.args.out.now) (g.K.Sink.taken c.finish_stopped.new.out) c.finish_stopped.result

    wanted : (a : Account) → g.M.LevelRun.tells c.args.run.now c.args.order [] a → c.in-Err-Stop.stop ≡ stop.NoMemory → Wrote a
    wanted a tells w =
        let i = c.events.invariant in
        let none = c.finish_stopped.ensures.no_memory w in
        let more = c.in-Err-Stop.ensures.prefix c.events.printed.items a (i.told a tells) in
        subst (Writes a (g.K.Sink.taken c.args.out.now) (g.K.Sink.taken c.finish_stopped.new.out)) (sym none.0) (
          c.events.printed.items,
          more.0,
          more.1,
          subst (λ o. Appends (g.K.Sink.taken c.args.out.now) o (flat_map result_line c.events.printed.items)) (sym none.1) i.taken,
        )

    ended : (a : Account) → g.M.LevelRun.tells c.args.run.now c.args.order [] a → c.in-Err-Stop.stop ≢ stop.NoMemory → Wrote a
    ended a tells n =
        let i = c.events.invariant in
        let end = stop-ends c.in-Err-Stop.stop n in
        let e = rw c.in-Err-Stop.field-0-is at (c.in-Err-Stop.ensures.event c.events.printed.items a (i.told a tells)) in
        ended-writes a c.events.printed.items end.0 (g.M.LevelRun.stand c.advance.new.self) (e end.0 end.1) c.args.results c.tally-in-Err-Stop.result
        (c.requires.results a tells) c.tally-in-Err-Stop.ensures.value _ _ _ i.taken c.finish_stopped.result
        (c.finish_stopped.ensures.text end.0 c.args.results c.events.printed.items end.1)

pub returns-in-Err-Stop-clause-machine : goal.returns-in-Err-Stop-clause-machine
returns-in-Err-Stop-clause-machine g c = λ a tells. ⊎_elim (wanted a) (ended a tells) (is-no_memory c.in-Err-Stop.stop)
  where
    Left : Account → Type 0
    Left a = Leaves a.machine (g.M.LevelRun.stand c.advance.new.self).machine (exec.Run c.finish_stopped.result)

    wanted : (a : Account) → c.in-Err-Stop.stop ≡ stop.NoMemory → Left a
    wanted a w = subst (λ r. Leaves a.machine (g.M.LevelRun.stand c.advance.new.self).machine (exec.Run r)) (sym (c.finish_stopped.ensures.no_memory w).0)
        (broken-leaves a.machine _ broken.NoMemory)

    ended : (a : Account) → g.M.LevelRun.tells c.args.run.now c.args.order [] a → c.in-Err-Stop.stop ≢ stop.NoMemory → Left a
    ended a tells n =
        let end = stop-ends c.in-Err-Stop.stop n in
        let e = rw c.in-Err-Stop.field-0-is at (c.in-Err-Stop.ensures.event c.events.printed.items a (c.events.invariant.told a tells)) in
        ended-leaves a c.events.printed.items end.0 (g.M.LevelRun.stand c.advance.new.self) (e end.0 end.1) (exec.Run c.finish_stopped.result)

pub returns-in-Err-Wild-clause-text : goal.returns-in-Err-Wild-clause-text
returns-in-Err-Wild-clause-text g c = λ a tells.
    let i = c.events.invariant in
    let e = rw c.in-Err-Wild.field-0-is at (c.in-Err-Wild.ensures.event c.events.printed.items a (i.told a tells)) in
    ended-executes a c.events.printed.items (Wild (cause_of c.in-Err-Wild.what) c.in-Err-Wild.number) (g.M.LevelRun.stand c.advance.new.self) e
    c.args.results c.tally-in-Err-Wild.result (c.requires.results a tells) c.tally-in-Err-Wild.ensures.value _ _ _ i.taken c.finish_wild.result
    (c.finish_wild.ensures.text c.args.results c.events.printed.items)

pub returns-in-Err-Wild-clause-machine : goal.returns-in-Err-Wild-clause-machine
returns-in-Err-Wild-clause-machine g c = λ a tells.
    let e = rw c.in-Err-Wild.field-0-is at (c.in-Err-Wild.ensures.event c.events.printed.items a (c.events.invariant.told a tells)) in
    ended-leaves a c.events.printed.items (Wild (cause_of c.in-Err-Wild.what) c.in-Err-Wild.number) (g.M.LevelRun.stand c.advance.new.self) e
    c.finish_wild.result

pub returns-in-Err-Trap-clause-text : goal.returns-in-Err-Trap-clause-text
returns-in-Err-Trap-clause-text g c = λ a tells.
    let i = c.events.invariant in
    let e = rw c.in-Err-Trap.field-0-is at (c.in-Err-Trap.ensures.event c.events.printed.items a (i.told a tells)) in
    ended-executes a c.events.printed.items (Trap c.in-Err-Trap.pc (trap_text c.in-Err-Trap.cause)) (g.M.LevelRun.stand c.advance.new.self) e
    c.args.results c.tally-in-Err-Trap.result (c.requires.results a tells) c.tally-in-Err-Trap.ensures.value _ _ _ i.taken c.finish_trap.result
    (c.finish_trap.ensures.text c.args.results c.events.printed.items)

pub returns-in-Err-Trap-clause-machine : goal.returns-in-Err-Trap-clause-machine
returns-in-Err-Trap-clause-machine g c = λ a tells.
    let e = rw c.in-Err-Trap.field-0-is at (c.in-Err-Trap.ensures.event c.events.printed.items a (c.events.invariant.told a tells)) in
    ended-leaves a c.events.printed.items (Trap c.in-Err-Trap.pc (trap_text c.in-Err-Trap.cause)) (g.M.LevelRun.stand c.advance.new.self) e
    c.finish_trap.result
