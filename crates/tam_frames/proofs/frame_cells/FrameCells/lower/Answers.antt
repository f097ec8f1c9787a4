use Rattle.std.proofs.Common.{◌≡◌, ◌∙◌, ap, ap₂, ℕ, ◌-◌, length, arith}
use Rattle.linked_cells.specs.Cells.{cell_at, with_words}
use Rattle.frame_tables.specs.FrameTables.{Frame}
use Rattle.tam_frames.specs.HeldFrames.{held_at}
use Rattle.tam_frames.specs.FrameCells.{start_of}
use Rattle.tam_frames.proofs.FrameCellLemmas.{kept, IsIn, is-in, BecomesFrame, changed-held, changed-view}
use Rattle.tam_frames.proofs.HoldChanges.{holds-owed, changes-owed}
use Rattle.tam_frames.proofs.frame_cells.FrameCells.lower.Goals as goal

-- the frame that owes less
becomes : (c : goal.After-set_words) → BecomesFrame (kept c.self.inside) c.set_words.new.self c.args.f
    (record (held_at c.args.self.now.frames c.args.f) { owed = (held_at c.args.self.now.frames c.args.f).owed - c.args.n })
becomes c =
    let s = c.self.inside in
    let is : IsIn (kept s) c.args.self.now c.args.f = is-in c.self.invariant c.self.view_is c.args.f c.requires.there in
    let start_is : c.start-start.result ≡ start_of s.shape.slots s.shape.threads c.args.f = c.start-start.ensures.value ∙ is.start_is in
    let h : Frame = held_at c.args.self.now.frames c.args.f in
    let owed : c.words-owed.result.0 ≡ h.owed =
    c.words-owed.ensures.first ∙ ap (λ (i : ℕ). (cell_at s.table.cells i).first) start_is ∙ is.holds.owed in
    let ready : c.words-owed.result.1 ≡ length h.ready =
    c.words-owed.ensures.second ∙ ap (λ (i : ℕ). (cell_at s.table.cells i).second) start_is ∙ is.holds.ready_count in
    let u : ℕ = c.words-owed.result.1 in
    let less : c.saturating_sub.result ≡ h.owed - c.args.n = c.saturating_sub.ensures ∙ ap (λ (n : ℕ). n - c.args.n) owed in
    record {
      cells = with_words s.table.cells (start_of s.shape.slots s.shape.threads c.args.f) (h.owed - c.args.n) u;
      table_is = c.set_words.ensures.value ∙ ap₂ (λ (i o : ℕ). record s.table { cells = with_words s.table.cells i o u }) start_is less;
      changes = changes-owed is.holds is.inside (h.owed - c.args.n) u;
      holds = holds-owed is.holds is.inside (h.owed - c.args.n) u ready;
    }

pub start-start-requires : goal.start-start-requires
start-start-requires c =
    let s = c.self.inside in
    let is : IsIn (kept s) c.args.self.now c.args.f = is-in c.self.invariant c.self.view_is c.args.f c.requires.there in
    record { room = is.room }

pub words-owed-requires : goal.words-owed-requires
words-owed-requires c =
    let s = c.self.inside in
    let is : IsIn (kept s) c.args.self.now c.args.f = is-in c.self.invariant c.self.view_is c.args.f c.requires.there in
    let start_is : c.start-start.result ≡ start_of s.shape.slots s.shape.threads c.args.f = c.start-start.ensures.value ∙ is.start_is in
    record { there = omega (arith, start_is, is.inside) }

pub set_words-requires : goal.set_words-requires
set_words-requires c =
    let s = c.self.inside in
    let is : IsIn (kept s) c.args.self.now c.args.f = is-in c.self.invariant c.self.view_is c.args.f c.requires.there in
    let start_is : c.start-start.result ≡ start_of s.shape.slots s.shape.threads c.args.f = c.start-start.ensures.value ∙ is.start_is in
    record { there = omega (arith, start_is, is.inside) }

pub invariant_of-self : goal.invariant_of-self
invariant_of-self c = changed-held c.self.invariant c.self.view_is c.requires.there (becomes c)

pub returns : goal.returns
returns c = record { value = changed-view c.self.invariant c.self.view_is c.requires.there (becomes c) }
