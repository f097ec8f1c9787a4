use Rattle.std.proofs.Common.{◌≡◌, ◌∙◌, sym, ap, ℕ, ◌+◌, ◌-◌, List, [], ◌∷◌, Some, length, drop, arith}
use Rattle.std.specs.Prelude.{slice_get, slice_index}
use Rattle.std.proofs.lemmas.List.{set-get_or, nil_from_length}
use Rattle.linked_cells.specs.Cells.{CellRow, cell_at, with_words, unlinked}
use Rattle.frame_tables.specs.FrameTables.{Frame, no_frame}
use Rattle.tam_frames.specs.StoredFrames.{frame_popped}
use Rattle.tam_frames.specs.HeldFrames.{held_at, held_with}
use Rattle.tam_frames.specs.FrameCells.{start_of}
use Rattle.tam_frames.proofs.FrameCellLemmas.{kept, IsIn, is-in, BecomesFrame, changed-held, changed-view}
use Rattle.tam_frames.proofs.HoldReady.{Pops, popped-is, holds-popped, changes-popped, first-and-rest}
use Rattle.tam_frames.proofs.frame_cells.FrameCells.pop.Goals as goal

-- the frame without the thread that became ready last
becomes : (c : goal.After-set_words) → BecomesFrame (kept c.self.inside) c.set_words.new.self c.args.f
    (frame_popped (held_at c.args.self.now.frames c.args.f))
becomes c =
    let s = c.self.inside in
    let is : IsIn (kept s) c.args.self.now c.args.f = is-in c.self.invariant c.self.view_is c.args.f c.requires.there in
    let start_is : c.start-start.result ≡ start_of s.shape.slots s.shape.threads c.args.f = c.start-start.ensures.value ∙ is.start_is in
    let h : Frame = held_at c.args.self.now.frames c.args.f in
    let ready : c.words-owed.result.1 ≡ length h.ready =
    c.words-owed.ensures.second ∙ ap (λ (i : ℕ). (cell_at s.table.cells i).second) start_is ∙ is.holds.ready_count in
    let owed : c.words-owed.result.0 ≡ h.owed =
    c.words-owed.ensures.first ∙ ap (λ (i : ℕ). (cell_at s.table.cells i).first) start_is ∙ is.holds.owed in
    let a : ℕ = start_of s.shape.slots s.shape.threads c.args.f in
    let t : ℕ = slice_index h.ready 0 in
    let ts : List ℕ = drop 1 h.ready in
    let ready_is : h.ready ≡ t ∷ ts = first-and-rest h.ready (omega (arith, ready, c.if-ready-eq0.false)) in
    let long : length h.ready ≡ length ts + 1 = ap (λ (l : List ℕ). length l) ready_is ∙ omega arith in
    let o : ℕ = c.words-owed.result.0 in
    let u : ℕ = c.words-owed.result.1 - 1 in
    let pops : Pops h t ts o u = record { ready_is = ready_is; owed_is = owed; count_is = omega (arith, ready, long) } in
    record {
      cells = with_words (unlinked s.table.cells a) a o u;
      table_is = c.set_words.ensures.value
          ∙ ap (λ (r : CellRow). record r { cells = with_words r.cells c.start-start.result o u }) c.unlink-thread.ensures.value
          ∙ ap (λ (i : ℕ). record s.table { cells = with_words (unlinked s.table.cells i) i o u }) start_is;
      changes = changes-popped is.holds is.inside pops;
      holds = holds-popped is.holds is.inside pops;
    }

pub start-start-requires : goal.start-start-requires
start-start-requires c =
    let s = c.self.inside in
    let is : IsIn (kept s) c.args.self.now c.args.f = is-in c.self.invariant c.self.view_is c.args.f c.requires.there in
    record { room = is.room }

pub words-owed-requires : goal.words-owed-requires
words-owed-requires c =
    let s = c.self.inside in
    let is : IsIn (kept s) c.args.self.now c.args.f = is-in c.self.invariant c.self.view_is c.args.f c.requires.there in
    let start_is : c.start-start.result ≡ start_of s.shape.slots s.shape.threads c.args.f = c.start-start.ensures.value ∙ is.start_is in
    record { there = omega (arith, start_is, is.inside) }

pub returns-then-ready-eq0-clause-value : goal.returns-then-ready-eq0-clause-value
returns-then-ready-eq0-clause-value c =
    let s = c.self.inside in
    let is : IsIn (kept s) c.args.self.now c.args.f = is-in c.self.invariant c.self.view_is c.args.f c.requires.there in
    let start_is : c.start-start.result ≡ start_of s.shape.slots s.shape.threads c.args.f = c.start-start.ensures.value ∙ is.start_is in
    let h : Frame = held_at c.args.self.now.frames c.args.f in
    let ready : c.words-owed.result.1 ≡ length h.ready =
    c.words-owed.ensures.second ∙ ap (λ (i : ℕ). (cell_at s.table.cells i).second) start_is ∙ is.holds.ready_count in
    let none : h.ready ≡ [] = nil_from_length h.ready (omega (arith, ready, c.if-ready-eq0.true)) in
    sym (ap (λ (l : List ℕ). slice_get l 0) none)

pub returns-then-ready-eq0-clause-rest : goal.returns-then-ready-eq0-clause-rest
returns-then-ready-eq0-clause-rest c =
    let s = c.self.inside in
    let is : IsIn (kept s) c.args.self.now c.args.f = is-in c.self.invariant c.self.view_is c.args.f c.requires.there in
    let start_is : c.start-start.result ≡ start_of s.shape.slots s.shape.threads c.args.f = c.start-start.ensures.value ∙ is.start_is in
    let h : Frame = held_at c.args.self.now.frames c.args.f in
    let ready : c.words-owed.result.1 ≡ length h.ready =
    c.words-owed.ensures.second ∙ ap (λ (i : ℕ). (cell_at s.table.cells i).second) start_is ∙ is.holds.ready_count in
    let none : h.ready ≡ [] = nil_from_length h.ready (omega (arith, ready, c.if-ready-eq0.true)) in
    let same : frame_popped h ≡ h = ap (λ (l : List ℕ). record h { ready = l }) (ap (λ (l : List ℕ). drop 1 l) none ∙ sym none) in
    sym (ap (λ (x : Frame). held_with c.args.self.now c.args.f x) same
    ∙ ap (λ (l : List Frame). record c.args.self.now { frames = l }) (set-get_or c.args.self.now.frames c.args.f no_frame))

pub invariant_of-self : goal.invariant_of-self
invariant_of-self c = changed-held c.self.invariant c.self.view_is c.requires.there (becomes c)

pub returns-clause-value : goal.returns-clause-value
returns-clause-value c =
    let s = c.self.inside in
    let is : IsIn (kept s) c.args.self.now c.args.f = is-in c.self.invariant c.self.view_is c.args.f c.requires.there in
    let start_is : c.start-start.result ≡ start_of s.shape.slots s.shape.threads c.args.f = c.start-start.ensures.value ∙ is.start_is in
    let h : Frame = held_at c.args.self.now.frames c.args.f in
    let ready : c.words-owed.result.1 ≡ length h.ready =
    c.words-owed.ensures.second ∙ ap (λ (i : ℕ). (cell_at s.table.cells i).second) start_is ∙ is.holds.ready_count in
    let owed : c.words-owed.result.0 ≡ h.owed =
    c.words-owed.ensures.first ∙ ap (λ (i : ℕ). (cell_at s.table.cells i).first) start_is ∙ is.holds.owed in
    let a : ℕ = start_of s.shape.slots s.shape.threads c.args.f in
    let t : ℕ = slice_index h.ready 0 in
    let ts : List ℕ = drop 1 h.ready in
    let ready_is : h.ready ≡ t ∷ ts = first-and-rest h.ready (omega (arith, ready, c.if-ready-eq0.false)) in
    let long : length h.ready ≡ length ts + 1 = ap (λ (l : List ℕ). length l) ready_is ∙ omega arith in
    let o : ℕ = c.words-owed.result.0 in
    let u : ℕ = c.words-owed.result.1 - 1 in
    let pops : Pops h t ts o u = record { ready_is = ready_is; owed_is = owed; count_is = omega (arith, ready, long) } in
    let thread_is : c.unlink-thread.result ≡ t =
    c.unlink-thread.ensures.second ∙ ap (λ (i : ℕ). (cell_at s.table.cells (cell_at s.table.cells i).link).second) start_is
    ∙ popped-is is.holds is.inside pops in
    ap (λ (n : ℕ). Some n) thread_is ∙ sym (ap (λ (l : List ℕ). slice_get l 0) ready_is)

pub returns-clause-rest : goal.returns-clause-rest
returns-clause-rest c = changed-view c.self.invariant c.self.view_is c.requires.there (becomes c)
