-- A frame that cells hold: it is read off them, and cells that stay hold it still.
use Rattle.std.proofs.Common.{◌≡◌, ◌≢◌, ◌∙◌, sym, ap, ap₂, subst, refl, ℕ, ◌+◌, ◌-◌, ◌<◌, ◌≤◌, List, [], ◌∷◌, length, map, not, nat_eq, arith}
use Rattle.std.proofs.Math.Dec.{eqb-suc-zero}
use Rattle.std.specs.List.{AllByRecursion}
use Rattle.linked_cells.specs.Cells.{LinkedCell, cell_at}
use Rattle.linked_cells.specs.Lists.{behind, IsApart}
use Rattle.frame_tables.specs.FrameTables.{Frame}
use Rattle.tam_frames.specs.StoredFrames.{has_any}
use Rattle.tam_frames.specs.FrameCells.{HoldsFrame, IsReady, frame_in, frame_width, thread_cell, slot_cell, listed}
use Rattle.tam_frames.proofs.ListedLemmas.{listed-is}
use Rattle.tam_frames.proofs.CellLists.{AllByRecursion-map, IsApart-all, behind-same}

-- the threads of cells
pub threads-of : (a : ℕ) (ts : List ℕ) → map (λ i. i - (a + 2)) (map (thread_cell a) ts) ≡ ts
threads-of a [] = refl
threads-of a (t ∷ ts) = ap₂ (λ (u : ℕ) (us : List ℕ). u ∷ us) (omega arith) (threads-of a ts)

-- a cell that is not a ready thread's is apart from their list
pub apart-from-ready : (a i : ℕ) (P : ℕ → Type 0) → ((t : ℕ) → P t → i ≢ thread_cell a t) → (ts : List ℕ) → AllByRecursion P ts
    → IsApart i (map (thread_cell a) ts)
apart-from-ready a i P other ts all = IsApart-all i (map (thread_cell a) ts) (AllByRecursion-map P (λ j. i ≢ j) (thread_cell a) other ts all)

-- whether some thread is ready, by how many are
pub has-any-is : (ts : List ℕ) → not (nat_eq (length ts) 0) ≡ has_any ts
has-any-is [] = refl
has-any-is (t ∷ ts) = ap not (eqb-suc-zero (length ts))

-- whether none is
pub none-is : (ts : List ℕ) → nat_eq (length ts) 0 ≡ not (has_any ts)
none-is [] = refl
none-is (t ∷ ts) = eqb-suc-zero (length ts)

module _ {cells : List LinkedCell} {slots threads a : ℕ} {h : Frame} (holds : HoldsFrame cells slots threads a h) where
  -- the frame that is read off is the one that they hold
  pub frame-in-is : frame_in cells slots threads a ≡ h
  frame-in-is =
      let slots_are : h.slots ≡ listed slots (λ s. (cell_at cells (slot_cell threads a s)).first) =
      listed-is slots (λ s. (cell_at cells (slot_cell threads a s)).first) h.slots 0 holds.slots_there (λ s lt. sym (holds.slot s lt)) in
      let counts_are : h.counts ≡ listed threads (λ t. (cell_at cells (thread_cell a t)).first) =
      listed-is threads (λ t. (cell_at cells (thread_cell a t)).first) h.counts 0 holds.threads_there (λ t lt. sym (holds.count t lt)) in
      let ready_are : map (λ i. i - (a + 2)) (behind cells a (cell_at cells a).second) ≡ h.ready =
      ap (λ (n : ℕ). map (λ i. i - (a + 2)) (behind cells a n)) holds.ready_count
      ∙ ap (λ (is : List ℕ). map (λ i. i - (a + 2)) is) holds.linked ∙ threads-of a h.ready in
      λ j. record { slots = (sym slots_are) j; counts = (sym counts_are) j; owed = holds.owed j; ready = ready_are j }

  -- they hold what is read off
  pub holds-own : HoldsFrame cells slots threads a (frame_in cells slots threads a)
  holds-own = subst (HoldsFrame cells slots threads a) (sym frame-in-is) holds

  -- a cell is one of the frame's, and not its second header
  abbrev pub IsInside : ℕ → Type 0
  IsInside i = (a ≤ i) × (i < a + frame_width slots threads) × (i ≢ a + 1)

  -- so are the cells of ready threads
  pub list-inside : AllByRecursion IsInside (behind cells a (length h.ready))
  list-inside =
      subst (λ is. AllByRecursion IsInside is) (sym holds.linked)
      (AllByRecursion-map (IsReady h.counts threads) IsInside (thread_cell a) (λ t ready. (omega arith, inside t ready.0, omega arith)) h.ready holds.ready)
    where
      inside : (t : ℕ) → t < threads → thread_cell a t < a + frame_width slots threads
      inside t lt = omega arith

  -- the head is apart from the list
  pub head-apart : IsApart a (behind cells a (length h.ready))
  head-apart =
      subst (IsApart a) (sym holds.linked) (apart-from-ready a a (IsReady h.counts threads) (λ t ready. omega arith) h.ready holds.ready)

  -- where those cells stay, they hold the frame still
  pub holds-still : (new : List LinkedCell) → ((j : ℕ) → IsInside j → cell_at new j ≡ cell_at cells j) → HoldsFrame new slots threads a h
  holds-still new same = record {
    slots_there = holds.slots_there;
    threads_there = holds.threads_there;
    slot = λ s lt. ap (λ (c : LinkedCell). c.first) (same (slot_cell threads a s) (omega arith, omega (arith, lt), omega arith)) ∙ holds.slot s lt;
    count = λ t lt. ap (λ (c : LinkedCell). c.first) (same (thread_cell a t) (omega arith, omega (arith, lt), omega arith)) ∙ holds.count t lt;
    number = λ t lt. ap (λ (c : LinkedCell). c.second) (same (thread_cell a t) (omega arith, omega (arith, lt), omega arith)) ∙ holds.number t lt;
    owed = ap (λ (c : LinkedCell). c.first) (same a (omega arith, omega arith, omega arith)) ∙ holds.owed;
    ready_count = ap (λ (c : LinkedCell). c.second) (same a (omega arith, omega arith, omega arith)) ∙ holds.ready_count;
    linked = behind-same (record { same = λ j inside. ap (λ (c : LinkedCell). c.link) (same j inside) }) a (length h.ready)
        (omega arith, omega arith, omega arith) list-inside ∙ holds.linked;
    ready = holds.ready;
    fit = holds.fit;
  }
