use Rattle.std.proofs.Common.{◌≡◌, ◌∙◌, ap, ◌+◌, ◌%◌, ◌^◌, ℕ}
use Rattle.frame_tables.specs.FrameTables.{slot_in}
use Rattle.tl0_machine.specs.ThreadStates.{machine_of}
use Rattle.tl0_machine.proofs.threads.ret.Goals as goal

pub returns-clause-value : goal.returns-clause-value
returns-clause-value c = λ order printed.
    let m = machine_of c.args.state.now order printed in
    let inlet : c.inlet_behind-inlet.result ≡ (slot_in m.table c.args.f 1 + c.args.place) % 2 ^ 32 =
    c.inlet_behind-inlet.ensures.value ∙ ap (λ (w : ℕ). (w + c.args.place) % 2 ^ 32) c.word-first.ensures.value in
    rw (c.word-frame.ensures.value, inlet, c.word-word.ensures.value) at (c.post.ensures.value order printed)
