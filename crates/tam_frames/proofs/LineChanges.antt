-- Frames of which a line changes: each is held still, and so is the other line.
use Rattle.std.proofs.Common.{◌≡◌, ◌≢◌, ◌∙◌, sym, ap, subst, ℕ, ◌+◌, ◌<◌, ◌≤◌, Bool, false, List, [], ◌∷◌, length, map, arith}
use Rattle.std.proofs.Common.{inl, inr}
use Rattle.std.specs.List.{AllByRecursion}
use Rattle.std.proofs.lemmas.Bool.{cases_order}
use Rattle.linked_cells.specs.declared.line.Line.{Line}
use Rattle.linked_cells.specs.Cells.{LinkedCell, CellRow, cell_at}
use Rattle.linked_cells.specs.Lists.{behind, from, IsApart}
use Rattle.linked_cells.specs.Lines.{KeepsWords, items_of, numbers_of}
use Rattle.linked_cells.proofs.LineLemmas.{last-is, last-all}
use Rattle.frame_tables.specs.FrameTables.{Frame, no_frame, is_queued}
use Rattle.tam_frames.specs.FrameCells.{CellFrames, Shape, AreHeld, HoldsFrame, HoldsLine, HoldLines, held_frames, shape_of, is_set, frame_in}
use Rattle.tam_frames.specs.FrameCells.{frame_width, start_of}
use Rattle.tam_frames.specs.FrameCells.{second_header, thread_cell, slot_cell, listed}
use Rattle.tam_frames.proofs.CellLists.{AllByRecursion-weaker, IsApart-all}
use Rattle.tam_frames.proofs.FrameCellLemmas.{frame-fits}
use Rattle.tam_frames.proofs.HoldLemmas.{IsInside, frame-in-is, holds-own, list-inside}
use Rattle.tam_frames.proofs.LineHolds.{numbers-are, lines-own}
use Rattle.tam_frames.proofs.ListedLemmas.{listed-same}
use Rattle.tam_frames.proofs.QueueLemmas.{not-first, not-behind}

-- ---- roots and second headers

-- a cell is none of the cells of a frame but its second header, whatever the frame
abbrev pub IsBesideFrames : ℕ → ℕ → ℕ → Type 0
IsBesideFrames slots threads j = (g i : ℕ) → start_of slots threads g ≤ i → i < start_of slots threads g + frame_width slots threads
    → i ≢ start_of slots threads g + 1 → j ≢ i

-- such are roots
pub root-beside : (slots threads j : ℕ) → j < 2 → IsBesideFrames slots threads j
root-beside slots threads j low g i from_g below beside same = omega (arith, low, from_g, same)

-- and second headers
pub header-beside : (slots threads f : ℕ) → IsBesideFrames slots threads (second_header slots threads f)
header-beside slots threads f g i from_g below beside same = elim (cases_order f g) [
  | inl is ↦ beside (sym same ∙ ap (second_header slots threads) is)
  | inr (inl less) ↦ let fits = frame-fits slots threads f g less in omega (arith, fits, from_g, same)
  | inr (inr more) ↦ let fits = frame-fits slots threads g f more in omega (arith, fits, below, same)
]

-- two frames have two second headers
pub headers-differ : (slots threads f g : ℕ) → f ≢ g → second_header slots threads f ≢ second_header slots threads g
headers-differ slots threads f g other same = elim (cases_order f g) [
  | inl is ↦ other is
  | inr (inl less) ↦ let fits = frame-fits slots threads f g less in omega (arith, fits, same)
  | inr (inr more) ↦ let fits = frame-fits slots threads g f more in omega (arith, fits, same)
]

-- a number that no other is
pub queued-apart : (f : ℕ) (ns : List ℕ) → is_queued ns f ≡ false → IsApart f ns
queued-apart f [] none = tt
queued-apart f (n ∷ ns) none = ((λ same. not-first ns n f none (sym same)), queued-apart f ns (not-behind ns n f none))

-- then its second header is none of theirs
pub headers-apart : (slots threads f : ℕ) (ns : List ℕ) → IsApart f ns → IsApart (second_header slots threads f) (map (second_header slots threads) ns)
headers-apart slots threads f [] apart = tt
headers-apart slots threads f (n ∷ ns) apart = (headers-differ slots threads f n apart.0, headers-apart slots threads f ns apart.1)

-- no root is a second header
roots-apart : (slots threads r : ℕ) (ns : List ℕ) → r < 2 → IsApart r (map (second_header slots threads) ns)
roots-apart slots threads r [] low = tt
roots-apart slots threads r (n ∷ ns) low = ((λ same. omega (arith, low, same)), roots-apart slots threads r ns low)

module _ {cells : List LinkedCell} {shape : Shape} {line : Line} {root : ℕ} {numbers : List ℕ} (holds : HoldsLine cells shape line root numbers) where
  abbrev headers : List ℕ
  headers = map (second_header shape.slots shape.threads) numbers

  -- a cell is apart from a line
  pub apart-line : (j : ℕ) → j ≢ root → IsApart j headers → IsApart j (from cells line.root line.count)
  apart-line j other apart = (
    (λ same. other (same ∙ holds.root_is)),
    subst (IsApart j) (sym holds.is.linked) apart,
  )

  -- the other root
  pub root-apart-line : (r : ℕ) → r < 2 → r ≢ root → IsApart r (from cells line.root line.count)
  root-apart-line r low other = apart-line r other (roots-apart shape.slots shape.threads r numbers low)

  -- the second header of a frame that isn't in it
  pub header-apart-line : root < 2 → (f : ℕ) → IsApart f numbers → IsApart (second_header shape.slots shape.threads f) (from cells line.root line.count)
  header-apart-line low f apart =
      apart-line (second_header shape.slots shape.threads f) (λ same. omega (arith, low, same)) (headers-apart shape.slots shape.threads f numbers apart)

  -- what holds of the root and of each second header holds of the last cell
  pub of-last : (P : ℕ → Type 0) → P root → AllByRecursion P headers → P line.last
  of-last P first all =
      subst P (sym (holds.is.last_is ∙ last-is cells line.root line.count))
      (last-all P line.root (items_of cells line)
      (subst P (sym holds.root_is) first, subst (λ (is : List ℕ). AllByRecursion P is) (sym holds.is.linked) all))

-- ---- all frames, where links change

-- frame f, as it is read off
abbrev pub frame_of : CellFrames → ℕ → Frame
frame_of k f = frame_in k.table.cells k.slots k.threads (start_of k.slots k.threads f)

-- the list of its ready threads
abbrev pub ready_cells : List LinkedCell → CellFrames → ℕ → List ℕ
ready_cells cells k f = behind cells (start_of k.slots k.threads f) (length (frame_of k f).ready)

-- a cell beside frames is apart from their lists
pub apart-frame : {k : CellFrames} → AreHeld k → (j : ℕ) → IsBesideFrames k.slots k.threads j → (g : ℕ) → g < k.begun
    → IsApart j (from k.table.cells (start_of k.slots k.threads g) (length (frame_of k g).ready))
apart-frame {k} held j beside g lt = (
  beside g (start_of k.slots k.threads g) (omega arith) (omega arith) (omega arith),
  IsApart-all j (ready_cells k.table.cells k g)
      (AllByRecursion-weaker (IsInside (held.each g lt)) (λ i. j ≢ i) (λ i inside. beside g i inside.0 inside.1 inside.2) (ready_cells k.table.cells k g)
      (list-inside (held.each g lt))),
)

-- words stay, so do the lists of ready threads, and the lines go through their frames
pub record Relinks (k : CellFrames) (new : CellRow) (queue free : Line) (waiting idle : List ℕ) : Type 0 where
  pub words : KeepsWords k.table new
  pub lists : (g : ℕ) → g < k.begun → ready_cells new.cells k g ≡ ready_cells k.table.cells k g
  pub lines : HoldLines new.cells (shape_of k) queue free waiting idle

module _ {k : CellFrames} (held : AreHeld k) {new : CellRow} {queue free : Line} {waiting idle : List ℕ} (relinks : Relinks k new queue free waiting idle) where
  abbrev relinked : CellFrames
  relinked = record k { table = new; queue = queue; free = free }

  -- each frame is held still
  still : (g : ℕ) → g < k.begun → HoldsFrame new.cells k.slots k.threads (start_of k.slots k.threads g) (frame_of k g)
  still g lt =
      let old = held.each g lt in
      let a : ℕ = start_of k.slots k.threads g in
      record {
        slots_there = old.slots_there;
        threads_there = old.threads_there;
        slot = λ s there. relinks.words.first_same (slot_cell k.threads a s) ∙ old.slot s there;
        count = λ t there. relinks.words.first_same (thread_cell a t) ∙ old.count t there;
        number = λ t there. relinks.words.second_same (thread_cell a t) ∙ old.number t there;
        owed = relinks.words.first_same a ∙ old.owed;
        ready_count = relinks.words.second_same a ∙ old.ready_count;
        linked = relinks.lists g lt ∙ old.linked;
        ready = old.ready;
        fit = old.fit;
      }

  -- all are held
  pub relinked-held : AreHeld relinked
  relinked-held = record {
    there = relinks.words.length_same ∙ held.there;
    room_there = relinks.words.room_same ∙ held.room_there;
    few = held.few;
    small = held.small;
    narrow = held.narrow;
    countable = held.countable;
    each = λ g lt. holds-own (still g lt);
    lines = lines-own relinks.lines;
  }

  -- with those lines
  pub relinked-view : held_frames relinked ≡ record (held_frames k) { queue = waiting; free = idle }
  relinked-view =
      let mark : List LinkedCell → ℕ → Bool = λ cells g. is_set (cell_at cells (second_header k.slots k.threads g)).first in
      let frames_are : listed k.begun (frame_of relinked) ≡ listed k.begun (frame_of k) =
      listed-same k.begun (frame_of relinked) (frame_of k) no_frame (λ g lt. frame-in-is (still g lt)) in
      let lives_are : listed k.begun (mark new.cells) ≡ listed k.begun (mark k.table.cells) =
      listed-same k.begun (mark new.cells) (mark k.table.cells) false
      (λ g lt. ap is_set (relinks.words.first_same (second_header k.slots k.threads g))) in
      let queue_is : numbers_of new.cells queue ≡ waiting = numbers-are relinks.lines.queue_held relinks.lines.numbered in
      let free_is : numbers_of new.cells free ≡ idle = numbers-are relinks.lines.free_held relinks.lines.numbered in
      λ j. record (held_frames k) { frames = frames_are j; lives = lives_are j; queue = queue_is j; free = free_is j }
