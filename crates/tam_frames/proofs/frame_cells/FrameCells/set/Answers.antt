use Rattle.std.proofs.Common.{◌≡◌, ◌∙◌, ap, ap₂, ℕ, ◌<◌, arith}
use Rattle.std.specs.Prelude.{slice_set}
use Rattle.linked_cells.specs.Cells.{with_words}
use Rattle.frame_tables.specs.FrameTables.{Frame}
use Rattle.tam_frames.specs.HeldFrames.{held_at}
use Rattle.tam_frames.specs.FrameCells.{start_of, slot_cell}
use Rattle.tam_frames.proofs.FrameCellLemmas.{kept, IsIn, is-in, BecomesFrame, changed-held, changed-view}
use Rattle.tam_frames.proofs.HoldChanges.{holds-slot, changes-slot}
use Rattle.tam_frames.proofs.frame_cells.FrameCells.set.Goals as goal

-- the frame with its slot set
becomes : (c : goal.After-set_words) → BecomesFrame (kept c.self.inside) c.set_words.new.self c.args.f
    (record (held_at c.args.self.now.frames c.args.f) { slots = slice_set (held_at c.args.self.now.frames c.args.f).slots c.args.slot c.args.word })
becomes c =
    let s = c.self.inside in
    let is : IsIn (kept s) c.args.self.now c.args.f = is-in c.self.invariant c.self.view_is c.args.f c.requires.there in
    let cell_is : c.slot_cell-cell.result ≡ slot_cell s.shape.threads (start_of s.shape.slots s.shape.threads c.args.f) c.args.slot =
    c.slot_cell-cell.ensures.value ∙ ap₂ (λ (t a : ℕ). slot_cell t a c.args.slot) is.threads_is is.start_is in
    let slot : c.args.slot < s.shape.slots = omega (arith, c.requires.slot, is.slots_is) in
    let h : Frame = held_at c.args.self.now.frames c.args.f in
    let a : ℕ = start_of s.shape.slots s.shape.threads c.args.f in
    record {
      cells = with_words s.table.cells (slot_cell s.shape.threads a c.args.slot) c.args.word c.args.slot;
      table_is = c.set_words.ensures.value ∙ ap (λ (i : ℕ). record s.table { cells = with_words s.table.cells i c.args.word c.args.slot }) cell_is;
      changes = changes-slot is.holds is.inside c.args.slot c.args.word c.args.slot slot;
      holds = holds-slot is.holds is.inside c.args.slot c.args.word c.args.slot slot;
    }

pub slot_cell-cell-requires-clause-room : goal.slot_cell-cell-requires-clause-room
slot_cell-cell-requires-clause-room c =
    let s = c.self.inside in
    let is : IsIn (kept s) c.args.self.now c.args.f = is-in c.self.invariant c.self.view_is c.args.f c.requires.there in
    is.room

pub set_words-requires : goal.set_words-requires
set_words-requires c =
    let s = c.self.inside in
    let is : IsIn (kept s) c.args.self.now c.args.f = is-in c.self.invariant c.self.view_is c.args.f c.requires.there in
    let cell_is : c.slot_cell-cell.result ≡ slot_cell s.shape.threads (start_of s.shape.slots s.shape.threads c.args.f) c.args.slot =
    c.slot_cell-cell.ensures.value ∙ ap₂ (λ (t a : ℕ). slot_cell t a c.args.slot) is.threads_is is.start_is in
    let slot : c.args.slot < s.shape.slots = omega (arith, c.requires.slot, is.slots_is) in
    record { there = omega (arith, cell_is, slot, is.inside) }

pub invariant_of-self : goal.invariant_of-self
invariant_of-self c = changed-held c.self.invariant c.self.view_is c.requires.there (becomes c)

pub returns : goal.returns
returns c = record { value = changed-view c.self.invariant c.self.view_is c.requires.there (becomes c) }
