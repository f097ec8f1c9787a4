-- A frame that cells hold, where one of its slots, its counts or what it owes is set.
use Rattle.std.proofs.Common.{◌≡◌, ◌≢◌, ◌∙◌, sym, ap, ℕ, ◌+◌, ◌-◌, ◌<◌, ◌≤◌, List, length, arith, inl, inr}
use Rattle.std.specs.Prelude.{slice_index, slice_set}
use Rattle.std.proofs.lemmas.Bool.{cases_eq}
use Rattle.std.proofs.lemmas.List.{length-set, get_or-set_same, get_or-set_other}
use Rattle.linked_cells.specs.Cells.{LinkedCell, cell_at, with_words}
use Rattle.frame_tables.specs.FrameTables.{Frame}
use Rattle.tam_frames.specs.FrameCells.{HoldsFrame, IsReady, frame_width, thread_cell, slot_cell}
use Rattle.tam_frames.proofs.CellLists.{IsWritten, is-written, behind-written, AllByRecursion-weaker, ChangesFrame, changes-written}
use Rattle.tam_frames.proofs.ReadyLemmas.{left-more}

-- the first words of cells are a list, and one of them is set
pub record SetsFirst (old new : List LinkedCell) (place : ℕ → ℕ) (values : List ℕ) (s w : ℕ) : Type 0 where
  pub each : (r : ℕ) → r < length values → (cell_at old (place r)).first ≡ slice_index values r
  pub there : s < length values
  pub apart : (r : ℕ) → r ≢ s → place r ≢ place s
  pub second : ℕ
  pub written : IsWritten old new (place s) w second

-- then they are the list with that one set
pub firsts-set : {old new : List LinkedCell} {place : ℕ → ℕ} {values : List ℕ} {s w : ℕ} → SetsFirst old new place values s w
    → (r : ℕ) → r < length values → (cell_at new (place r)).first ≡ slice_index (slice_set values s w) r
firsts-set {old} {new} {place} {values} {s} {w} sets r lt = elim (cases_eq r s) [
  | inl is ↦ ap (λ (e : ℕ). (cell_at new (place e)).first) is ∙ sets.written.first_is ∙ sym (get_or-set_same values s w 0 sets.there)
      ∙ ap (λ (e : ℕ). slice_index (slice_set values s w) e) (sym is)
  | inr other ↦ ap (λ (c : LinkedCell). c.first) (sets.written.others (place r) (sets.apart r other)) ∙ sets.each r lt
      ∙ sym (get_or-set_other values s r w 0 other)
]

-- one of several of a thread's count is spent
pub record Lessens (h : Frame) (threads t m : ℕ) : Type 0 where
  pub there : t < threads
  pub more : 2 ≤ m
  pub is : slice_index h.counts t ≡ m

module _ {cells : List LinkedCell} {slots threads a : ℕ} {h : Frame} (holds : HoldsFrame cells slots threads a h)
    (inside : a + frame_width slots threads ≤ length cells) where
  module _ (s w u : ℕ) (there : s < slots) where
    slot_written : IsWritten cells (with_words cells (slot_cell threads a s) w u) (slot_cell threads a s) w u
    slot_written = is-written cells (slot_cell threads a s) (omega (arith, inside, there)) w u

    slots_set : SetsFirst cells (with_words cells (slot_cell threads a s) w u) (slot_cell threads a) h.slots s w
    slots_set = record {
      each = λ r lt. holds.slot r (omega (arith, lt, holds.slots_there));
      there = omega (arith, there, holds.slots_there);
      apart = λ r other. omega (arith, other);
      second = u;
      written = slot_written;
    }

    -- a slot is set
    pub holds-slot : HoldsFrame (with_words cells (slot_cell threads a s) w u) slots threads a (record h { slots = slice_set h.slots s w })
    holds-slot =
        let new : List LinkedCell = with_words cells (slot_cell threads a s) w u in record {
          slots_there = length-set h.slots s w ∙ holds.slots_there;
          threads_there = holds.threads_there;
          slot = λ r lt. firsts-set slots_set r (omega (arith, lt, holds.slots_there));
          count = λ t lt. ap (λ (c : LinkedCell). c.first) (slot_written.others (thread_cell a t) (omega (arith, lt))) ∙ holds.count t lt;
          number = λ t lt. ap (λ (c : LinkedCell). c.second) (slot_written.others (thread_cell a t) (omega (arith, lt))) ∙ holds.number t lt;
          owed = ap (λ (c : LinkedCell). c.first) (slot_written.others a (omega arith)) ∙ holds.owed;
          ready_count = ap (λ (c : LinkedCell). c.second) (slot_written.others a (omega arith)) ∙ holds.ready_count;
          linked = behind-written slot_written a (length h.ready) ∙ holds.linked;
          ready = holds.ready;
          fit = holds.fit;
        }

    pub changes-slot : ChangesFrame cells (with_words cells (slot_cell threads a s) w u) a (frame_width slots threads)
    changes-slot = changes-written (record { from_a = omega arith; below = omega (arith, there); beside = omega arith }) slot_written

  module _ (o u : ℕ) where
    header_written : IsWritten cells (with_words cells a o u) a o u
    header_written = is-written cells a (omega (arith, inside)) o u

    -- what it owes is set
    pub holds-owed : u ≡ length h.ready → HoldsFrame (with_words cells a o u) slots threads a (record h { owed = o })
    holds-owed same = record {
      slots_there = holds.slots_there;
      threads_there = holds.threads_there;
      slot = λ s lt. ap (λ (c : LinkedCell). c.first) (header_written.others (slot_cell threads a s) (omega arith)) ∙ holds.slot s lt;
      count = λ t lt. ap (λ (c : LinkedCell). c.first) (header_written.others (thread_cell a t) (omega arith)) ∙ holds.count t lt;
      number = λ t lt. ap (λ (c : LinkedCell). c.second) (header_written.others (thread_cell a t) (omega arith)) ∙ holds.number t lt;
      owed = header_written.first_is;
      ready_count = header_written.second_is ∙ same;
      linked = behind-written header_written a (length h.ready) ∙ holds.linked;
      ready = holds.ready;
      fit = holds.fit;
    }

    pub changes-owed : ChangesFrame cells (with_words cells a o u) a (frame_width slots threads)
    changes-owed = changes-written (record { from_a = omega arith; below = omega arith; beside = omega arith }) header_written

  module _ {t m : ℕ} (less : Lessens h threads t m) where
    thread_written : IsWritten cells (with_words cells (thread_cell a t) (m - 1) t) (thread_cell a t) (m - 1) t
    thread_written = is-written cells (thread_cell a t) (omega (arith, inside, less.there)) (m - 1) t

    known : t < length h.counts
    known = omega (arith, less.there, holds.threads_there)

    counts_set : SetsFirst cells (with_words cells (thread_cell a t) (m - 1) t) (thread_cell a) h.counts t (m - 1)
    counts_set = record {
      each = λ r lt. holds.count r (omega (arith, lt, holds.threads_there));
      there = known;
      apart = λ r other. omega (arith, other);
      second = t;
      written = thread_written;
    }

    -- one of several of a count is spent
    pub holds-count : HoldsFrame (with_words cells (thread_cell a t) (m - 1) t) slots threads a (record h { counts = slice_set h.counts t (m - 1) })
    holds-count =
        let new : List LinkedCell = with_words cells (thread_cell a t) (m - 1) t in record {
          slots_there = holds.slots_there;
          threads_there = length-set h.counts t (m - 1) ∙ holds.threads_there;
          slot = λ s lt. ap (λ (c : LinkedCell). c.first) (thread_written.others (slot_cell threads a s) (omega (arith, less.there))) ∙ holds.slot s lt;
          count = λ r lt. firsts-set counts_set r (omega (arith, lt, holds.threads_there));
          number = numbers;
          owed = ap (λ (c : LinkedCell). c.first) (thread_written.others a (omega arith)) ∙ holds.owed;
          ready_count = ap (λ (c : LinkedCell). c.second) (thread_written.others a (omega arith)) ∙ holds.ready_count;
          linked = behind-written thread_written a (length h.ready) ∙ holds.linked;
          ready = AllByRecursion-weaker (IsReady h.counts threads) (IsReady (slice_set h.counts t (m - 1)) threads) still h.ready holds.ready;
          fit = omega (arith, holds.fit, left-more h.counts t known m less.more less.is);
        }
      where
        numbers : (r : ℕ) → r < threads → (cell_at (with_words cells (thread_cell a t) (m - 1) t) (thread_cell a r)).second ≡ r
        numbers r lt = elim (cases_eq r t) [
          | inl same ↦ ap (λ (e : ℕ). (cell_at (with_words cells (thread_cell a t) (m - 1) t) (thread_cell a e)).second) same ∙ thread_written.second_is
              ∙ sym same
          | inr other ↦ ap (λ (c : LinkedCell). c.second) (thread_written.others (thread_cell a r) (omega (arith, other))) ∙ holds.number r lt
        ]

        still : (r : ℕ) → IsReady h.counts threads r → IsReady (slice_set h.counts t (m - 1)) threads r
        still r ready = (ready.0, get_or-set_other h.counts t r (m - 1) 0 other ∙ ready.1)
          where
            other : r ≢ t
            other same = let count : slice_index h.counts r ≡ m = ap (slice_index h.counts) same ∙ less.is in omega (arith, count, ready.1, less.more)

    pub changes-count : ChangesFrame cells (with_words cells (thread_cell a t) (m - 1) t) a (frame_width slots threads)
    changes-count = changes-written (record { from_a = omega arith; below = omega (arith, less.there); beside = omega arith }) thread_written
