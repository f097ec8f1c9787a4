use Rattle.std.proofs.Common.{◌≡◌, ◌∙◌, ap, ap₂, ℕ, ◌<◌, arith}
use Rattle.linked_cells.specs.Cells.{cell_at}
use Rattle.tam_frames.specs.FrameCells.{start_of, slot_cell}
use Rattle.tam_frames.proofs.FrameCellLemmas.{kept, IsIn, is-in}
use Rattle.tam_frames.proofs.frame_cells.FrameCells.get.Goals as goal

pub slot_cell-requires-clause-room : goal.slot_cell-requires-clause-room
slot_cell-requires-clause-room c =
    let s = c.self.inside in
    let is : IsIn (kept s) c.args.self.now c.args.f = is-in c.self.invariant c.self.view_is c.args.f c.requires.there in
    is.room

pub words-requires : goal.words-requires
words-requires c =
    let s = c.self.inside in
    let is : IsIn (kept s) c.args.self.now c.args.f = is-in c.self.invariant c.self.view_is c.args.f c.requires.there in
    let cell_is : c.slot_cell.result ≡ slot_cell s.shape.threads (start_of s.shape.slots s.shape.threads c.args.f) c.args.slot =
    c.slot_cell.ensures.value ∙ ap₂ (λ (t a : ℕ). slot_cell t a c.args.slot) is.threads_is is.start_is in
    let slot : c.args.slot < s.shape.slots = omega (arith, c.requires.slot, is.slots_is) in
    record { there = omega (arith, cell_is, slot, is.inside) }

pub returns : goal.returns
returns c =
    let s = c.self.inside in
    let is : IsIn (kept s) c.args.self.now c.args.f = is-in c.self.invariant c.self.view_is c.args.f c.requires.there in
    let cell_is : c.slot_cell.result ≡ slot_cell s.shape.threads (start_of s.shape.slots s.shape.threads c.args.f) c.args.slot =
    c.slot_cell.ensures.value ∙ ap₂ (λ (t a : ℕ). slot_cell t a c.args.slot) is.threads_is is.start_is in
    let slot : c.args.slot < s.shape.slots = omega (arith, c.requires.slot, is.slots_is) in
    record {
      value = c.words.ensures.first ∙ ap (λ (i : ℕ). (cell_at s.table.cells i).first) cell_is ∙ is.holds.slot c.args.slot slot;
    }
