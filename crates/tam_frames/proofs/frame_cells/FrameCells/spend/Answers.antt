use Rattle.std.proofs.Common.{◌≡◌, ◌∙◌, refl, sym, ap, ap₂, subst, ℕ, ◌+◌, ◌-◌, ◌<◌, ◌≤◌, List, ◌∷◌, length, nat_eq, arith}
use Rattle.std.specs.Prelude.{slice_set, slice_index}
use Rattle.std.proofs.lemmas.List.{set-get_or}
use Rattle.linked_cells.specs.Cells.{CellRow, LinkedCell, cell_at, with_words, linked}
use Rattle.frame_tables.specs.FrameTables.{Frame, no_frame, spend_answer}
use Rattle.tam_frames.specs.StoredFrames.{frame_spent, frame_spent_of}
use Rattle.tam_frames.specs.HeldFrames.{held_at, held_with, wakes_of}
use Rattle.tam_frames.specs.FrameCells.{HoldsFrame, start_of, thread_cell}
use Rattle.tam_frames.proofs.FrameCellLemmas.{kept, IsIn, is-in, BecomesFrame, changed-held, changed-view}
use Rattle.tam_frames.proofs.HoldChanges.{Lessens, holds-count, changes-count}
use Rattle.tam_frames.proofs.HoldReady.{Enables, holds-enabled, changes-enabled}
use Rattle.tam_frames.proofs.ReadyLemmas.{left-last, answer-more, spent-more, wakes-more}
use Rattle.tam_frames.proofs.HoldLemmas.{none-is}
use Rattle.tam_frames.proofs.frame_cells.FrameCells.spend.Goals as goal

-- the frame with one more ready thread
enabled : (c : goal.After-set_words-in-1) → BecomesFrame (kept c.self.inside) c.set_words-in-1.new.self c.args.f
    (frame_spent (held_at c.args.self.now.frames c.args.f) c.args.thread)
enabled c =
    let s = c.self.inside in
    let is : IsIn (kept s) c.args.self.now c.args.f = is-in c.self.invariant c.self.view_is c.args.f c.requires.there in
    let h : Frame = held_at c.args.self.now.frames c.args.f in
    let a : ℕ = start_of s.shape.slots s.shape.threads c.args.f in
    let t : ℕ = c.args.thread in
    let there : t < s.shape.threads = omega (arith, c.requires.thread, is.threads_is) in
    let cell_is : c.thread_cell-cell.result ≡ thread_cell a t = c.thread_cell-cell.ensures.value ∙ ap (λ (i : ℕ). thread_cell i t) is.start_is in
    let count : c.words.result.0 ≡ slice_index h.counts t =
    c.words.ensures.first ∙ ap (λ (i : ℕ). (cell_at s.table.cells i).first) cell_is ∙ is.holds.count t there in
    let one : slice_index h.counts t ≡ 1 = sym count ∙ c.in-1.is in
    let start_is : c.start-start.result ≡ start_of s.shape.slots s.shape.threads c.args.f = c.start-start.ensures.value ∙ is.start_is in
    let ready : c.words-owed.result.1 ≡ length h.ready =
    c.words-owed.ensures.second ∙ ap (λ (i : ℕ). (cell_at s.table.cells i).second) start_is ∙ is.holds.ready_count in
    let owed : c.words-owed.result.0 ≡ h.owed =
    c.words-owed.ensures.first ∙ ap (λ (i : ℕ). (cell_at s.table.cells i).first) start_is ∙ is.holds.owed in
    let o : ℕ = c.words-owed.result.0 in
    let u : ℕ = c.words-owed.result.1 + 1 in
    let spent : record h { counts = slice_set h.counts t 0; ready = t ∷ h.ready } ≡ frame_spent h t = sym (ap (λ (n : ℕ). frame_spent_of h t n) one) in
    let cells : List LinkedCell = with_words (linked (with_words s.table.cells (thread_cell a t) 0 t) a (thread_cell a t)) a o u in
    let enables : Enables h s.shape.threads t o u = record { there = there; one_left = one; owed_is = owed; count_is = omega (arith, ready) } in
    record {
      cells = cells;
      table_is = c.set_words-in-1.ensures.value
          ∙ ap (λ (r : CellRow). record r { cells = with_words r.cells c.start-start.result o u }) (c.link.ensures.value
          ∙ ap (λ (r : CellRow). record r { cells = linked r.cells c.start-start.result c.thread_cell-cell.result }) c.set_words.ensures.value)
          ∙ ap₂ (λ (i j : ℕ). record s.table { cells = with_words (linked (with_words s.table.cells j 0 t) i j) i o u }) start_is cell_is;
      changes = changes-enabled is.holds is.inside enables;
      holds = subst (HoldsFrame cells s.shape.slots s.shape.threads a) spent (holds-enabled is.holds is.inside enables);
    }

-- the frame with one less of a count
lessened : (c : goal.After-set_words-in_default) → BecomesFrame (kept c.self.inside) c.set_words-in_default.new.self c.args.f
    (frame_spent (held_at c.args.self.now.frames c.args.f) c.args.thread)
lessened c =
    let s = c.self.inside in
    let is : IsIn (kept s) c.args.self.now c.args.f = is-in c.self.invariant c.self.view_is c.args.f c.requires.there in
    let h : Frame = held_at c.args.self.now.frames c.args.f in
    let a : ℕ = start_of s.shape.slots s.shape.threads c.args.f in
    let t : ℕ = c.args.thread in
    let there : t < s.shape.threads = omega (arith, c.requires.thread, is.threads_is) in
    let cell_is : c.thread_cell-cell.result ≡ thread_cell a t = c.thread_cell-cell.ensures.value ∙ ap (λ (i : ℕ). thread_cell i t) is.start_is in
    let count : c.words.result.0 ≡ slice_index h.counts t =
    c.words.ensures.first ∙ ap (λ (i : ℕ). (cell_at s.table.cells i).first) cell_is ∙ is.holds.count t there in
    let m : ℕ = slice_index h.counts t in
    let more : 2 ≤ m = omega (arith, count, c.in_default) in
    let cells : List LinkedCell = with_words s.table.cells (thread_cell a t) (m - 1) t in
    let less : Lessens h s.shape.threads t m = record { there = there; more = more; is = refl } in
    record {
      cells = cells;
      table_is = c.set_words-in_default.ensures.value
          ∙ ap₂ (λ (i n : ℕ). record s.table { cells = with_words s.table.cells i (n - 1) t }) cell_is count;
      changes = changes-count is.holds is.inside less;
      holds = subst (HoldsFrame cells s.shape.slots s.shape.threads a) (sym (spent-more h t m more)) (holds-count is.holds is.inside less);
    }

pub start-start-requires : goal.start-start-requires
start-start-requires c =
    let s = c.self.inside in
    let is : IsIn (kept s) c.args.self.now c.args.f = is-in c.self.invariant c.self.view_is c.args.f c.requires.there in
    record { room = is.room }

pub thread_cell-cell-requires-clause-room : goal.thread_cell-cell-requires-clause-room
thread_cell-cell-requires-clause-room c =
    let s = c.self.inside in
    let is : IsIn (kept s) c.args.self.now c.args.f = is-in c.self.invariant c.self.view_is c.args.f c.requires.there in
    is.room

pub words-requires : goal.words-requires
words-requires c =
    let s = c.self.inside in
    let is : IsIn (kept s) c.args.self.now c.args.f = is-in c.self.invariant c.self.view_is c.args.f c.requires.there in
    let h : Frame = held_at c.args.self.now.frames c.args.f in
    let a : ℕ = start_of s.shape.slots s.shape.threads c.args.f in
    let t : ℕ = c.args.thread in
    let there : t < s.shape.threads = omega (arith, c.requires.thread, is.threads_is) in
    let cell_is : c.thread_cell-cell.result ≡ thread_cell a t = c.thread_cell-cell.ensures.value ∙ ap (λ (i : ℕ). thread_cell i t) is.start_is in
    record { there = omega (arith, cell_is, there, is.inside) }

pub overflow_add-ready : goal.overflow_add-ready
overflow_add-ready c =
    let s = c.self.inside in
    let is : IsIn (kept s) c.args.self.now c.args.f = is-in c.self.invariant c.self.view_is c.args.f c.requires.there in
    let h : Frame = held_at c.args.self.now.frames c.args.f in
    let a : ℕ = start_of s.shape.slots s.shape.threads c.args.f in
    let t : ℕ = c.args.thread in
    let there : t < s.shape.threads = omega (arith, c.requires.thread, is.threads_is) in
    let cell_is : c.thread_cell-cell.result ≡ thread_cell a t = c.thread_cell-cell.ensures.value ∙ ap (λ (i : ℕ). thread_cell i t) is.start_is in
    let count : c.words.result.0 ≡ slice_index h.counts t =
    c.words.ensures.first ∙ ap (λ (i : ℕ). (cell_at s.table.cells i).first) cell_is ∙ is.holds.count t there in
    let one : slice_index h.counts t ≡ 1 = sym count ∙ c.in-1.is in
    let start_is : c.start-start.result ≡ start_of s.shape.slots s.shape.threads c.args.f = c.start-start.ensures.value ∙ is.start_is in
    let ready : c.words-owed.result.1 ≡ length h.ready =
    c.words-owed.ensures.second ∙ ap (λ (i : ℕ). (cell_at s.table.cells i).second) start_is ∙ is.holds.ready_count in
    let left = left-last h.counts t (omega (arith, there, is.holds.threads_there)) one in
    omega (arith, ready, left, is.holds.fit, is.narrow)

pub invariant_of-self : goal.invariant_of-self
invariant_of-self c = changed-held c.self.invariant c.self.view_is c.requires.there (enabled c)

pub invariant_of-self-in_default : goal.invariant_of-self-in_default
invariant_of-self-in_default c = changed-held c.self.invariant c.self.view_is c.requires.there (lessened c)

pub returns-in-0-clause-answer : goal.returns-in-0-clause-answer
returns-in-0-clause-answer c =
    let s = c.self.inside in
    let is : IsIn (kept s) c.args.self.now c.args.f = is-in c.self.invariant c.self.view_is c.args.f c.requires.there in
    let h : Frame = held_at c.args.self.now.frames c.args.f in
    let a : ℕ = start_of s.shape.slots s.shape.threads c.args.f in
    let t : ℕ = c.args.thread in
    let there : t < s.shape.threads = omega (arith, c.requires.thread, is.threads_is) in
    let cell_is : c.thread_cell-cell.result ≡ thread_cell a t = c.thread_cell-cell.ensures.value ∙ ap (λ (i : ℕ). thread_cell i t) is.start_is in
    let count : c.words.result.0 ≡ slice_index h.counts t =
    c.words.ensures.first ∙ ap (λ (i : ℕ). (cell_at s.table.cells i).first) cell_is ∙ is.holds.count t there in
    sym (ap spend_answer (sym count ∙ c.in-0.is))

pub returns-in-0-clause-value : goal.returns-in-0-clause-value
returns-in-0-clause-value c =
    let s = c.self.inside in
    let is : IsIn (kept s) c.args.self.now c.args.f = is-in c.self.invariant c.self.view_is c.args.f c.requires.there in
    let h : Frame = held_at c.args.self.now.frames c.args.f in
    let a : ℕ = start_of s.shape.slots s.shape.threads c.args.f in
    let t : ℕ = c.args.thread in
    let there : t < s.shape.threads = omega (arith, c.requires.thread, is.threads_is) in
    let cell_is : c.thread_cell-cell.result ≡ thread_cell a t = c.thread_cell-cell.ensures.value ∙ ap (λ (i : ℕ). thread_cell i t) is.start_is in
    let count : c.words.result.0 ≡ slice_index h.counts t =
    c.words.ensures.first ∙ ap (λ (i : ℕ). (cell_at s.table.cells i).first) cell_is ∙ is.holds.count t there in
    let same : frame_spent h t ≡ h = ap (λ (n : ℕ). frame_spent_of h t n) (sym count ∙ c.in-0.is) in
    sym (ap (λ (x : Frame). held_with c.args.self.now c.args.f x) same
    ∙ ap (λ (l : List Frame). record c.args.self.now { frames = l }) (set-get_or c.args.self.now.frames c.args.f no_frame))

pub returns-in-1-clause-answer : goal.returns-in-1-clause-answer
returns-in-1-clause-answer c =
    let s = c.self.inside in
    let is : IsIn (kept s) c.args.self.now c.args.f = is-in c.self.invariant c.self.view_is c.args.f c.requires.there in
    let h : Frame = held_at c.args.self.now.frames c.args.f in
    let a : ℕ = start_of s.shape.slots s.shape.threads c.args.f in
    let t : ℕ = c.args.thread in
    let there : t < s.shape.threads = omega (arith, c.requires.thread, is.threads_is) in
    let cell_is : c.thread_cell-cell.result ≡ thread_cell a t = c.thread_cell-cell.ensures.value ∙ ap (λ (i : ℕ). thread_cell i t) is.start_is in
    let count : c.words.result.0 ≡ slice_index h.counts t =
    c.words.ensures.first ∙ ap (λ (i : ℕ). (cell_at s.table.cells i).first) cell_is ∙ is.holds.count t there in
    let one : slice_index h.counts t ≡ 1 = sym count ∙ c.in-1.is in
    sym (ap spend_answer one)

pub returns-in-1-clause-value : goal.returns-in-1-clause-value
returns-in-1-clause-value c = changed-view c.self.invariant c.self.view_is c.requires.there (enabled c)

pub returns-in_default-clause-answer : goal.returns-in_default-clause-answer
returns-in_default-clause-answer c =
    let s = c.self.inside in
    let is : IsIn (kept s) c.args.self.now c.args.f = is-in c.self.invariant c.self.view_is c.args.f c.requires.there in
    let h : Frame = held_at c.args.self.now.frames c.args.f in
    let a : ℕ = start_of s.shape.slots s.shape.threads c.args.f in
    let t : ℕ = c.args.thread in
    let there : t < s.shape.threads = omega (arith, c.requires.thread, is.threads_is) in
    let cell_is : c.thread_cell-cell.result ≡ thread_cell a t = c.thread_cell-cell.ensures.value ∙ ap (λ (i : ℕ). thread_cell i t) is.start_is in
    let count : c.words.result.0 ≡ slice_index h.counts t =
    c.words.ensures.first ∙ ap (λ (i : ℕ). (cell_at s.table.cells i).first) cell_is ∙ is.holds.count t there in
    let m : ℕ = slice_index h.counts t in
    let more : 2 ≤ m = omega (arith, count, c.in_default) in
    sym (answer-more m more)

pub returns-in_default-clause-value : goal.returns-in_default-clause-value
returns-in_default-clause-value c = changed-view c.self.invariant c.self.view_is c.requires.there (lessened c)

pub returns-in-0-clause-woken : goal.returns-in-0-clause-woken
returns-in-0-clause-woken c =
    let s = c.self.inside in
    let is : IsIn (kept s) c.args.self.now c.args.f = is-in c.self.invariant c.self.view_is c.args.f c.requires.there in
    let h : Frame = held_at c.args.self.now.frames c.args.f in
    let a : ℕ = start_of s.shape.slots s.shape.threads c.args.f in
    let t : ℕ = c.args.thread in
    let there : t < s.shape.threads = omega (arith, c.requires.thread, is.threads_is) in
    let cell_is : c.thread_cell-cell.result ≡ thread_cell a t = c.thread_cell-cell.ensures.value ∙ ap (λ (i : ℕ). thread_cell i t) is.start_is in
    let count : c.words.result.0 ≡ slice_index h.counts t =
    c.words.ensures.first ∙ ap (λ (i : ℕ). (cell_at s.table.cells i).first) cell_is ∙ is.holds.count t there in
    sym (ap (wakes_of h) (sym count ∙ c.in-0.is))

pub returns-in-1-clause-woken : goal.returns-in-1-clause-woken
returns-in-1-clause-woken c =
    let s = c.self.inside in
    let is : IsIn (kept s) c.args.self.now c.args.f = is-in c.self.invariant c.self.view_is c.args.f c.requires.there in
    let h : Frame = held_at c.args.self.now.frames c.args.f in
    let a : ℕ = start_of s.shape.slots s.shape.threads c.args.f in
    let t : ℕ = c.args.thread in
    let there : t < s.shape.threads = omega (arith, c.requires.thread, is.threads_is) in
    let cell_is : c.thread_cell-cell.result ≡ thread_cell a t = c.thread_cell-cell.ensures.value ∙ ap (λ (i : ℕ). thread_cell i t) is.start_is in
    let count : c.words.result.0 ≡ slice_index h.counts t =
    c.words.ensures.first ∙ ap (λ (i : ℕ). (cell_at s.table.cells i).first) cell_is ∙ is.holds.count t there in
    let start_is : c.start-start.result ≡ start_of s.shape.slots s.shape.threads c.args.f = c.start-start.ensures.value ∙ is.start_is in
    let ready : c.words-owed.result.1 ≡ length h.ready =
    c.words-owed.ensures.second ∙ ap (λ (i : ℕ). (cell_at s.table.cells i).second) start_is ∙ is.holds.ready_count in
    ap (λ (n : ℕ). nat_eq n 0) ready ∙ none-is h.ready ∙ sym (ap (wakes_of h) (sym count ∙ c.in-1.is))

pub returns-in_default-clause-woken : goal.returns-in_default-clause-woken
returns-in_default-clause-woken c =
    let s = c.self.inside in
    let is : IsIn (kept s) c.args.self.now c.args.f = is-in c.self.invariant c.self.view_is c.args.f c.requires.there in
    let h : Frame = held_at c.args.self.now.frames c.args.f in
    let a : ℕ = start_of s.shape.slots s.shape.threads c.args.f in
    let t : ℕ = c.args.thread in
    let there : t < s.shape.threads = omega (arith, c.requires.thread, is.threads_is) in
    let cell_is : c.thread_cell-cell.result ≡ thread_cell a t = c.thread_cell-cell.ensures.value ∙ ap (λ (i : ℕ). thread_cell i t) is.start_is in
    let count : c.words.result.0 ≡ slice_index h.counts t =
    c.words.ensures.first ∙ ap (λ (i : ℕ). (cell_at s.table.cells i).first) cell_is ∙ is.holds.count t there in
    sym (wakes-more h (slice_index h.counts t) (omega (arith, count, c.in_default)))
