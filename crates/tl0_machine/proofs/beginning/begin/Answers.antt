use Rattle.std.proofs.Common.{◌≡◌, ◌∙◌, ℕ, List, Bool, ap, sym, subst}
use Rattle.tam_istr.specs.Cells.{Arrays}
use Rattle.std.specs.Prelude.{vec_capacity}
use Rattle.tam_msgs.specs.PendingMessages.{PendingMessages}
use Rattle.tam_frames.specs.StoredFrames.{StoredFrames}
use Rattle.tl0_machine.specs.ThreadStates.{AreCodes}
use Rattle.tl0_machine.proofs.NewFrames.{codes-put, kept-begun, beside_begun}
use Rattle.tl0_machine.proofs.beginning.begin.Goals as goal

pub returns-clause-kept : goal.returns-clause-kept
returns-clause-kept c = λ limits kept.
    let p = c.args.table.now in
    let old = c.args.state.now in
    let taken = c.take_frame-f.new.state in
    let beside : beside_begun (record taken { frames = c.spend.new.self }) ≡ beside_begun old =
    ap (λ (v : StoredFrames). ((v.count, v.slots, v.threads, vec_capacity taken.codes), taken.cells, taken.printed.items, taken.events)) c.spend.ensures.value
    ∙ ap (λ (b : (ℕ × ℕ × ℕ × ℕ) × ℕ × PendingMessages × Arrays × List Bool × ℕ). (b.0, b.3, b.4, b.5)) c.take_frame-f.ensures.beside in
    let codes : AreCodes p taken.codes.items =
    subst (AreCodes p) (sym c.take_frame-f.ensures.codes) (codes-put p old.codes.items _ c.args.code kept.codes c.requires.there) in
    kept-begun p limits old _ beside codes kept
