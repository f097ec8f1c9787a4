-- All frames on linked cells: one of them is read, and one is changed.
use Rattle.std.proofs.Common.{◌≡◌, ◌≢◌, ◌∙◌, sym, ap, ap₂, subst, refl, ℕ, ◌+◌, ◌*◌, ◌^◌, ◌<◌, ◌≤◌, Bool, false, List, length, arith, inl, inr}
use Rattle.std.specs.Prelude.{slice_set}
use Rattle.std.proofs.lemmas.Bool.{cases_eq, cases_order}
use Rattle.std.proofs.lemmas.Nat.{row_fits, mul-le}
use Rattle.linked_cells.specs.Cells.{LinkedCell, CellRow, cell_at}
use Rattle.frame_tables.specs.FrameTables.{Frame, no_frame}
use Rattle.tam_frames.specs.declared.frame_cells.FrameCells.TheInside.{Inside}
use Rattle.tam_frames.specs.HeldFrames.{HeldFrames, held_at, held_with}
use Rattle.linked_cells.specs.Lines.{numbers_of}
use Rattle.tam_frames.specs.FrameCells.{CellFrames, AreHeld, HoldsFrame, HoldLines, held_frames, shape_of, is_set, frame_in, frame_width, start_of}
use Rattle.tam_frames.specs.FrameCells.{second_header, listed}
use Rattle.tam_frames.proofs.ListedLemmas.{length-listed, get_or-listed, DifferAt, listed-set}
use Rattle.tam_frames.proofs.LineHolds.{KeepsLines, AreNumbered, numbers-are, lines-stay, lines-own}
use Rattle.tam_frames.proofs.CellLists.{ChangesFrame}
use Rattle.tam_frames.proofs.HoldLemmas.{frame-in-is, holds-own, holds-still}

-- what the code keeps
abbrev pub kept : Inside → CellFrames
kept s = record {
  table = s.table;
  queue = s.queue;
  free = s.free;
  begun = s.begun;
  room = s.room;
  slots = s.shape.slots;
  threads = s.shape.threads;
}

-- what the code reads of one frame: where it lies, and that the cells there hold it
pub record IsIn (k : CellFrames) (view : HeldFrames) (f : ℕ) : Type 0 where
  pub begun : f < k.begun
  pub room : f < view.room
  pub inside : start_of k.slots k.threads f + frame_width k.slots k.threads ≤ length k.table.cells
  pub small : length k.table.cells < 2 ^ 64
  pub start_is : start_of view.slots view.threads f ≡ start_of k.slots k.threads f
  pub slots_is : view.slots ≡ k.slots
  pub threads_is : view.threads ≡ k.threads
  pub narrow : k.threads < 2 ^ 32
  pub holds : HoldsFrame k.table.cells k.slots k.threads (start_of k.slots k.threads f) (held_at view.frames f)

-- a frame ends before the one behind it begins
pub frame-fits : (slots threads f n : ℕ) → f < n → start_of slots threads f + frame_width slots threads ≤ start_of slots threads n
frame-fits slots threads f n below =
    let w : ℕ = frame_width slots threads in let fits : f * w + w ≤ n * w = row_fits f w n w below (omega arith) in omega (arith, fits)

-- a frame lies behind those of lower numbers
pub start-le : (slots threads f n : ℕ) → f ≤ n → start_of slots threads f ≤ start_of slots threads n
start-le slots threads f n le =
    let w : ℕ = frame_width slots threads in let fits : f * w ≤ n * w = mul-le f w n w le (omega arith) in omega (arith, fits)

-- where a frame begins that is there or is the next one
pub record IsNext (k : CellFrames) (view : HeldFrames) (f : ℕ) : Type 0 where
  pub start_is : start_of view.slots view.threads f ≡ start_of k.slots k.threads f
  pub next : start_of k.slots k.threads f ≤ length k.table.cells

module _ {k : CellFrames} (held : AreHeld k) {view : HeldFrames} (view_is : held_frames k ≡ view) where
  -- the frame with a number
  abbrev frame : ℕ → Frame
  frame g = frame_in k.table.cells k.slots k.threads (start_of k.slots k.threads g)

  -- so many have begun
  pub count-is : length view.frames ≡ k.begun
  count-is = ap (λ (v : HeldFrames). length v.frames) (sym view_is) ∙ length-listed k.begun frame

  -- where the code puts a frame
  pub is-next : (f : ℕ) → f ≤ length view.frames → IsNext k view f
  is-next f there = record {
    start_is = ap (λ (v : HeldFrames). start_of v.slots v.threads f) (sym view_is);
    next = omega (arith, held.there, start-le k.slots k.threads f k.begun (omega (arith, there, count-is)));
  }

  module _ (f : ℕ) (there : f < length view.frames) where
    -- what is read
    pub is-in : IsIn k view f
    is-in =
        let begun : f < k.begun = omega (arith, there, count-is) in
        let room : k.room ≡ view.room = ap (λ (v : HeldFrames). v.room) view_is in
        let slots_is : view.slots ≡ k.slots = ap (λ (v : HeldFrames). v.slots) (sym view_is) in
        let threads_is : view.threads ≡ k.threads = ap (λ (v : HeldFrames). v.threads) (sym view_is) in
        record {
          begun = begun;
          room = omega (arith, begun, held.few, room);
          inside = omega (arith, frame-fits k.slots k.threads f k.begun begun, held.there);
          small = omega (arith, held.there, start-le k.slots k.threads k.begun k.room held.few, held.small);
          start_is = ap₂ (λ (s t : ℕ). start_of s t f) slots_is threads_is;
          slots_is = slots_is;
          threads_is = threads_is;
          narrow = held.narrow;
          holds = subst (HoldsFrame k.table.cells k.slots k.threads (start_of k.slots k.threads f))
              (sym (get_or-listed k.begun frame f no_frame begun) ∙ ap (λ (v : HeldFrames). held_at v.frames f) view_is)
              (held.each f begun);
        }

-- the cells of one frame are written anew, and then hold another; its second header keeps its link and its number, and has that mark
pub record RewritesFrame (k : CellFrames) (new : CellRow) (f : ℕ) (h : Frame) (mark : Bool) : Type 0 where
  pub cells : List LinkedCell
  pub table_is : new ≡ record k.table { cells = cells }
  pub length_same : length cells ≡ length k.table.cells
  pub before : (j : ℕ) → j < start_of k.slots k.threads f → cell_at cells j ≡ cell_at k.table.cells j
  pub after : (j : ℕ) → start_of k.slots k.threads f + frame_width k.slots k.threads ≤ j → cell_at cells j ≡ cell_at k.table.cells j
  pub link_same : (cell_at cells (second_header k.slots k.threads f)).link ≡ (cell_at k.table.cells (second_header k.slots k.threads f)).link
  pub number_is : (cell_at cells (second_header k.slots k.threads f)).second ≡ f
  pub mark_is : is_set (cell_at cells (second_header k.slots k.threads f)).first ≡ mark
  pub holds : HoldsFrame cells k.slots k.threads (start_of k.slots k.threads f) h

module _ {k : CellFrames} (held : AreHeld k) {view : HeldFrames} (view_is : held_frames k ≡ view) {f : ℕ} (begun : f < k.begun)
    {new : CellRow} {h : Frame} {mark : Bool} (rewrites : RewritesFrame k new f h mark) where
  abbrev after : CellFrames
  after = record k { table = record k.table { cells = rewrites.cells } }

  abbrev old_frame : ℕ → Frame
  old_frame g = frame_in k.table.cells k.slots k.threads (start_of k.slots k.threads g)

  abbrev new_frame : ℕ → Frame
  new_frame g = frame_in rewrites.cells k.slots k.threads (start_of k.slots k.threads g)

  abbrev old_mark : ℕ → Bool
  old_mark g = is_set (cell_at k.table.cells (second_header k.slots k.threads g)).first

  abbrev new_mark : ℕ → Bool
  new_mark g = is_set (cell_at rewrites.cells (second_header k.slots k.threads g)).first

  -- the cells of another frame stay
  others_same : (g : ℕ) → g ≢ f → (j : ℕ) → start_of k.slots k.threads g ≤ j → j < start_of k.slots k.threads g + frame_width k.slots k.threads
      → cell_at rewrites.cells j ≡ cell_at k.table.cells j
  others_same g other j from below = elim (cases_order g f) [
    | inl is ↦ absurd (other is)
    | inr (inl less) ↦ rewrites.before j (omega (arith, below, frame-fits k.slots k.threads g f less))
    | inr (inr more) ↦ rewrites.after j (omega (arith, from, frame-fits k.slots k.threads f g more))
  ]

  -- so they hold it still
  others : (g : ℕ) → g < k.begun → g ≢ f → HoldsFrame rewrites.cells k.slots k.threads (start_of k.slots k.threads g) (old_frame g)
  others g lt other = holds-still (held.each g lt) rewrites.cells (λ j inside. others_same g other j inside.0 inside.1)

  -- each frame is held
  each : (g : ℕ) → g < k.begun → HoldsFrame rewrites.cells k.slots k.threads (start_of k.slots k.threads g) (new_frame g)
  each g lt = elim (cases_eq g f) [
    | inl is ↦ subst (λ (e : ℕ). HoldsFrame rewrites.cells k.slots k.threads (start_of k.slots k.threads e) (new_frame e)) (sym is)
        (holds-own rewrites.holds)
    | inr other ↦ holds-own (others g lt other)
  ]

  -- the second header of another frame stays
  header_same : (g : ℕ) → g ≢ f → cell_at rewrites.cells (second_header k.slots k.threads g) ≡ cell_at k.table.cells (second_header k.slots k.threads g)
  header_same g other = others_same g other (second_header k.slots k.threads g) (omega arith) (omega arith)

  keeps : KeepsLines k.table.cells rewrites.cells (shape_of k)
  keeps = record {
    roots = λ r low. ap (λ (c : LinkedCell). c.link) (rewrites.before r (omega (arith, low)));
    headers = λ g lt. elim (cases_eq g f) [
      | inl is ↦ subst (λ (e : ℕ). (cell_at rewrites.cells (second_header k.slots k.threads e)).link ≡ (cell_at k.table.cells (second_header k.slots
          k.threads e)).link) (sym is) rewrites.link_same
      | inr other ↦ ap (λ (c : LinkedCell). c.link) (header_same g other)
    ];
    no_fewer = omega (arith, rewrites.length_same);
  }

  numbered : AreNumbered rewrites.cells (shape_of k)
  numbered g lt = elim (cases_eq g f) [
    | inl is ↦ subst (λ (e : ℕ). (cell_at rewrites.cells (second_header k.slots k.threads e)).second ≡ e) (sym is) rewrites.number_is
    | inr other ↦ ap (λ (c : LinkedCell). c.second) (header_same g other) ∙ held.lines.numbered g lt
  ]

  -- the lines stay
  lines : HoldLines rewrites.cells (shape_of k) k.queue k.free (numbers_of k.table.cells k.queue) (numbers_of k.table.cells k.free)
  lines = lines-stay held.lines keeps k.begun (omega arith) numbered

  -- all frames are held
  pub rewritten-held : AreHeld (record k { table = new })
  rewritten-held = subst (λ (t : CellRow). AreHeld (record k { table = t })) (sym rewrites.table_is) (record {
    there = rewrites.length_same ∙ held.there;
    room_there = held.room_there;
    few = held.few;
    small = held.small;
    narrow = held.narrow;
    countable = held.countable;
    each = each;
    lines = lines-own lines;
  })

  -- the frames where that one is another and is marked so
  pub rewritten-view : held_frames (record k { table = new }) ≡ record view { frames = slice_set view.frames f h; lives = slice_set view.lives f mark }
  rewritten-view =
      let differ : DifferAt k.begun old_frame new_frame f =
      record { there = begun; same = λ g lt other. sym (frame-in-is (others g lt other)) } in
      let frames_are : listed k.begun new_frame ≡ slice_set (listed k.begun old_frame) f h =
      sym (listed-set differ no_frame) ∙ ap (λ (x : Frame). slice_set (listed k.begun old_frame) f x) (frame-in-is rewrites.holds) in
      let differ_marks : DifferAt k.begun old_mark new_mark f =
      record { there = begun; same = λ g lt other. ap (λ (c : LinkedCell). is_set c.first) (sym (header_same g other)) } in
      let lives_are : listed k.begun new_mark ≡ slice_set (listed k.begun old_mark) f mark =
      sym (listed-set differ_marks false) ∙ ap (λ (b : Bool). slice_set (listed k.begun old_mark) f b) rewrites.mark_is in
      let queue_is : numbers_of rewrites.cells k.queue ≡ numbers_of k.table.cells k.queue = numbers-are lines.queue_held numbered in
      let free_is : numbers_of rewrites.cells k.free ≡ numbers_of k.table.cells k.free = numbers-are lines.free_held numbered in
      let all_are : held_frames after ≡ record (held_frames k) {
        frames = slice_set (held_frames k).frames f h;
        lives = slice_set (held_frames k).lives f mark;
      } =
      λ j. record (held_frames k) { frames = frames_are j; lives = lives_are j; queue = queue_is j; free = free_is j } in
      ap (λ (t : CellRow). held_frames (record k { table = t })) rewrites.table_is ∙ all_are
      ∙ ap (λ (v : HeldFrames). record v { frames = slice_set v.frames f h; lives = slice_set v.lives f mark }) view_is

-- the cells of one frame but its second header change, and then hold another
pub record BecomesFrame (k : CellFrames) (new : CellRow) (f : ℕ) (h : Frame) : Type 0 where
  pub cells : List LinkedCell
  pub table_is : new ≡ record k.table { cells = cells }
  pub changes : ChangesFrame k.table.cells cells (start_of k.slots k.threads f) (frame_width k.slots k.threads)
  pub holds : HoldsFrame cells k.slots k.threads (start_of k.slots k.threads f) h

module _ {k : CellFrames} (held : AreHeld k) {view : HeldFrames} (view_is : held_frames k ≡ view) {f : ℕ} (there : f < length view.frames)
    {new : CellRow} {h : Frame} (becomes : BecomesFrame k new f h) where
  is_begun : f < k.begun
  is_begun = omega (arith, there, count-is held view_is)

  abbrev mark_of : ℕ → Bool
  mark_of g = is_set (cell_at k.table.cells (second_header k.slots k.threads g)).first

  rewrites : RewritesFrame k new f h (mark_of f)
  rewrites = record {
    cells = becomes.cells;
    table_is = becomes.table_is;
    length_same = becomes.changes.length_same;
    before = becomes.changes.before;
    after = becomes.changes.after;
    link_same = ap (λ (c : LinkedCell). c.link) becomes.changes.header;
    number_is = ap (λ (c : LinkedCell). c.second) becomes.changes.header ∙ held.lines.numbered f is_begun;
    mark_is = ap (λ (c : LinkedCell). is_set c.first) becomes.changes.header;
    holds = becomes.holds;
  }

  -- all frames are held
  pub changed-held : AreHeld (record k { table = new })
  changed-held = rewritten-held held view_is is_begun rewrites

  -- the frames where that one is another
  pub changed-view : held_frames (record k { table = new }) ≡ held_with view f h
  changed-view =
      let marks_same : slice_set view.lives f (mark_of f) ≡ view.lives =
      subst (λ (v : HeldFrames). slice_set v.lives f (mark_of f) ≡ v.lives) view_is
      (listed-set {x = mark_of} {y = mark_of} (record { there = is_begun; same = λ g lt other. refl }) false) in
      rewritten-view held view_is is_begun rewrites ∙ ap (λ (l : List Bool). record (held_with view f h) { lives = l }) marks_same
