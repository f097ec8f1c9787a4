use Rattle.std.proofs.Common.{◌≡◌, ◌≢◌, ◌∙◌, ap, sym, ⊎_elim}
use Rattle.frame_tables.specs.declared.answers.Spend.TheVariants.{Left, Enabled, Spent}
use Rattle.frame_tables.specs.FrameTables.{is_live, count_in, spend_answer}
use Rattle.tam_frames.specs.StoredFrames.{StoredFrames}
use Rattle.tam_frames.proofs.LiveLemmas.{live-spent}
use Rattle.tl0_code.specs.Machines.{Fine}
use Rattle.tl0_machine.specs.ThreadStates.{machine_of}
use Rattle.tl0_machine.proofs.Spending.{spend-fine}
use Rattle.tl0_machine.proofs.threads.spend.Goals as goal

pub returns-in-Left-clause-value : goal.returns-in-Left-clause-value
returns-in-Left-clause-value c = λ order printed.
    let m = machine_of c.args.state.now order printed in
    let left : spend_answer (count_in m.table c.args.f c.args.thread) ≢ Spent = λ none.
    ⊎_elim (λ (a : c.spend.result ≡ Left). cc (c.spend.ensures.answer, none))
    (λ (a : c.spend.result ≡ Enabled). cc (c.spend.ensures.answer, none)) c.in-Left.is in
    spend-fine m c.args.f c.args.thread c.spend.ensures.counted left
    ∙ ap (λ (v : StoredFrames). Fine (record m { table = v.table })) (sym c.spend.ensures.value)

pub returns-in-Left-clause-live : goal.returns-in-Left-clause-live
returns-in-Left-clause-live c = λ g live.
    let table = c.args.state.now.frames.table in
    ap (λ (v : StoredFrames). is_live v.table g) c.spend.ensures.value
    ∙ (live-spent table c.args.f g c.args.thread (count_in table c.args.f c.args.thread) ∙ live)
