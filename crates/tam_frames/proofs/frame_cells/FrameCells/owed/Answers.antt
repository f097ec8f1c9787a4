use Rattle.std.proofs.Common.{◌∙◌, ap, ℕ, arith}
use Rattle.linked_cells.specs.Cells.{cell_at}
use Rattle.tam_frames.proofs.FrameCellLemmas.{kept, IsIn, is-in}
use Rattle.tam_frames.proofs.frame_cells.FrameCells.owed.Goals as goal

pub start-requires : goal.start-requires
start-requires c =
    let s = c.self.inside in
    let is : IsIn (kept s) c.args.self.now c.args.f = is-in c.self.invariant c.self.view_is c.args.f c.requires.there in
    record { room = is.room }

pub words-requires : goal.words-requires
words-requires c =
    let s = c.self.inside in
    let is : IsIn (kept s) c.args.self.now c.args.f = is-in c.self.invariant c.self.view_is c.args.f c.requires.there in
    record { there = omega (arith, c.start.ensures.value, is.start_is, is.inside) }

pub returns : goal.returns
returns c =
    let s = c.self.inside in
    let is : IsIn (kept s) c.args.self.now c.args.f = is-in c.self.invariant c.self.view_is c.args.f c.requires.there in
    record {
      value = c.words.ensures.first ∙ ap (λ (i : ℕ). (cell_at s.table.cells i).first) (c.start.ensures.value ∙ is.start_is) ∙ is.holds.owed;
    }
