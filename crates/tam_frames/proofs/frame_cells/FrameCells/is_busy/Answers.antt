use Rattle.std.proofs.Common.{◌≡◌, ◌∙◌, ap, ℕ, length, not, nat_eq, arith}
use Rattle.linked_cells.specs.Cells.{cell_at}
use Rattle.tam_frames.specs.HeldFrames.{held_at}
use Rattle.tam_frames.proofs.FrameCellLemmas.{kept, IsIn, is-in}
use Rattle.tam_frames.proofs.HoldLemmas.{has-any-is}
use Rattle.tam_frames.proofs.frame_cells.FrameCells.is_busy.Goals as goal

pub start-requires : goal.start-requires
start-requires c =
    let s = c.self.inside in
    let is : IsIn (kept s) c.args.self.now c.args.f = is-in c.self.invariant c.self.view_is c.args.f c.requires.there in
    record { room = is.room }

pub words-requires : goal.words-requires
words-requires c =
    let s = c.self.inside in
    let is : IsIn (kept s) c.args.self.now c.args.f = is-in c.self.invariant c.self.view_is c.args.f c.requires.there in
    record { there = omega (arith, c.start.ensures.value, is.start_is, is.inside) }

pub returns : goal.returns
returns c =
    let s = c.self.inside in
    let is : IsIn (kept s) c.args.self.now c.args.f = is-in c.self.invariant c.self.view_is c.args.f c.requires.there in
    let count : c.words.result.1 ≡ length (held_at c.args.self.now.frames c.args.f).ready =
    c.words.ensures.second ∙ ap (λ (i : ℕ). (cell_at s.table.cells i).second) (c.start.ensures.value ∙ is.start_is) ∙ is.holds.ready_count in
    record { value = ap (λ (n : ℕ). not (nat_eq n 0)) count ∙ has-any-is (held_at c.args.self.now.frames c.args.f).ready }
