use Rattle.std.proofs.Common.{◌≡◌, ◌∙◌, ◌-◌, ap, sym, true, false, suc, arith}
use Rattle.frame_tables.specs.FrameTables.{frame_at, lowered, rested, given_back}
use Rattle.tam_frames.specs.StoredFrames.{StoredFrames, is_busy}
use Rattle.tl0_code.specs.Machines.{Fine}
use Rattle.tl0_machine.specs.ThreadStates.{machine_of}
use Rattle.tl0_machine.proofs.Stopping.{still-live, owed-lowered, stopped-owes, stopped-gives, stopped-wild}
use Rattle.tl0_machine.proofs.threads.stop.Goals as goal

pub owed-requires : goal.owed-requires
owed-requires c = record { live = still-live c.args.state.now.frames c.lower.new.self c.args.f c.args.f _ c.lower.ensures.value c.requires.live }

pub busy-requires : goal.busy-requires
busy-requires c = record { live = still-live c.args.state.now.frames c.lower.new.self c.args.f c.args.f _ c.lower.ensures.value c.requires.live }

pub give-requires-clause-live : goal.give-requires-clause-live
give-requires-clause-live c = still-live c.args.state.now.frames c.lower.new.self c.args.f c.args.f _ c.lower.ensures.value c.requires.live

pub returns-then-owed-gt0-clause-value : goal.returns-then-owed-gt0-clause-value
returns-then-owed-gt0-clause-value c = λ order printed.
    let m = machine_of c.args.state.now order printed in
    let f = c.args.f in
    let owes : c.owed.result ≡ (frame_at m.table f).owed - 1 = c.owed.ensures.value
    ∙ (ap (λ (v : StoredFrames). (frame_at v.table f).owed) c.lower.ensures.value ∙ owed-lowered m.table f 1 c.requires.live) in
    let more : (frame_at m.table f).owed - 1 ≡ suc (c.owed.result - 1) = omega (arith, owes) in
    stopped-owes m f (c.owed.result - 1) more
    ∙ (ap (λ (v : StoredFrames). Fine (record m { table = rested v.table })) (sym c.lower.ensures.value)
    ∙ ap (λ (v : StoredFrames). Fine (record m { table = v.table })) (sym c.rest.ensures.value))

pub returns-then-busy-clause-value : goal.returns-then-busy-clause-value
returns-then-busy-clause-value c = λ order printed.
    let m = machine_of c.args.state.now order printed in
    let f = c.args.f in
    let owes : c.owed.result ≡ (frame_at m.table f).owed - 1 = c.owed.ensures.value
    ∙ (ap (λ (v : StoredFrames). (frame_at v.table f).owed) c.lower.ensures.value ∙ owed-lowered m.table f 1 c.requires.live) in
    let none : (frame_at m.table f).owed - 1 ≡ 0 = omega (arith, owes) in
    let busy : is_busy (lowered m.table f 1) f ≡ true =
    ap (λ (v : StoredFrames). is_busy v.table f) (sym c.lower.ensures.value) ∙ (sym c.busy.ensures.value ∙ cc) in
    stopped-wild m f none busy

pub returns-clause-value : goal.returns-clause-value
returns-clause-value c = λ order printed.
    let m = machine_of c.args.state.now order printed in
    let f = c.args.f in
    let owes : c.owed.result ≡ (frame_at m.table f).owed - 1 = c.owed.ensures.value
    ∙ (ap (λ (v : StoredFrames). (frame_at v.table f).owed) c.lower.ensures.value ∙ owed-lowered m.table f 1 c.requires.live) in
    let none : (frame_at m.table f).owed - 1 ≡ 0 = omega (arith, owes) in
    let idle : is_busy (lowered m.table f 1) f ≡ false =
    ap (λ (v : StoredFrames). is_busy v.table f) (sym c.lower.ensures.value) ∙ (sym c.busy.ensures.value ∙ cc) in
    stopped-gives m f none idle
    ∙ (ap (λ (v : StoredFrames). Fine (record m { table = given_back v.table f })) (sym c.lower.ensures.value)
    ∙ ap (λ (v : StoredFrames). Fine (record m { table = v.table })) (sym c.give.ensures.value))
