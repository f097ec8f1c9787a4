-- A frame on linked cells that begins, where one was before or behind the last.
use Rattle.std.proofs.Common.{◌≡◌, ◌∙◌, sym, ap, ap₂, subst, refl, ℕ, ◌+◌, ◌-◌, ◌*◌, ◌<◌, ◌≤◌, Bool, true, false, List, []}
use Rattle.std.proofs.Common.{◌∷◌, ◌++◌, length, take, replicate, arith, inl, inr}
use Rattle.std.specs.Prelude.{max, slice_index, slice_set}
use Rattle.std.proofs.lemmas.Bool.{cases_eq, cases_lt, lt-ltb, le-ltb}
use Rattle.std.proofs.lemmas.List.{length-append, length-replicate, length-take-le, get_or-take, get_or_append_left, get_or-append_right, get_or-replicate}
use Rattle.std.proofs.lemmas.List.{get_or_past}
use Rattle.std.proofs.lemmas.List.Sums.{count_by-le-length}
use Rattle.linked_cells.specs.Cells.{LinkedCell, CellRow, cell_at, with_put}
use Rattle.frame_tables.specs.FrameTables.{Frame, no_frame, new_frame}
use Rattle.linked_cells.specs.Lines.{numbers_of}
use Rattle.tam_frames.specs.HeldFrames.{HeldFrames, is_left, with_next, begun_with}
use Rattle.tam_frames.specs.FrameCells.{CellFrames, AreHeld, HoldsFrame, HoldLines, ArePut, held_frames, shape_of, is_set, frame_in, frame_width, start_of}
use Rattle.tam_frames.specs.FrameCells.{second_header, thread_cell, listed}
use Rattle.tam_frames.proofs.LineHolds.{KeepsLines, AreNumbered, numbers-are, lines-stay, lines-own}
use Rattle.tam_frames.proofs.ListedLemmas.{length-listed, listed-same, listed-more}
use Rattle.tam_frames.proofs.PutLemmas.{IsPut, is-put}
use Rattle.tam_frames.proofs.HoldLemmas.{frame-in-is, holds-own, holds-still}
use Rattle.tam_frames.proofs.FrameCellLemmas.{IsNext, is-next, count-is, frame-fits, RewritesFrame, rewritten-held, rewritten-view}

-- the cells of a frame are put: its headers, its threads and its slots
pub record IsFramePut (old new : List LinkedCell) (slots threads a : ℕ) (counts : List ℕ) : Type 0 where
  pub one : List LinkedCell
  pub two : List LinkedCell
  pub three : List LinkedCell
  pub number : ℕ
  pub header : IsPut old one a (length counts) 0
  pub second : IsPut one two (a + 1) 1 number
  pub put_threads : ArePut two three (a + 2) counts threads
  pub put_slots : ArePut three new (a + 2 + threads) [] slots

module _ {old new : List LinkedCell} {slots threads a : ℕ} {counts : List ℕ} (put : IsFramePut old new slots threads a counts) where
  -- cells before it stay
  pub put-before : (j : ℕ) → j < a → cell_at new j ≡ cell_at old j
  put-before j lt =
      put.put_slots.before j (omega (arith, lt)) ∙ put.put_threads.before j (omega (arith, lt)) ∙ put.second.others j (omega (arith, lt))
      ∙ put.header.others j (omega (arith, lt))

  -- cells behind it stay
  pub put-after : (j : ℕ) → a + frame_width slots threads ≤ j → cell_at new j ≡ cell_at old j
  put-after j le =
      put.put_slots.after j (omega (arith, le)) ∙ put.put_threads.after j (omega (arith, le)) ∙ put.second.others j (omega (arith, le))
      ∙ put.header.others j (omega (arith, le))

  -- it ends within the cells
  pub put-length : length new ≡ max (length old) (a + frame_width slots threads)
  put-length = omega (arith, put.put_slots.length_is, put.put_threads.length_is, put.second.length_is, put.header.length_is)

  -- its header
  header_is : cell_at new a ≡ cell_at put.one a
  header_is = put.put_slots.before a (omega arith) ∙ put.put_threads.before a (omega arith) ∙ put.second.others a (omega arith)

  -- its second header
  second_is : cell_at new (a + 1) ≡ cell_at put.two (a + 1)
  second_is = put.put_slots.before (a + 1) (omega arith) ∙ put.put_threads.before (a + 1) (omega arith)

  pub put-mark : (cell_at new (a + 1)).first ≡ 1
  put-mark = ap (λ (c : LinkedCell). c.first) second_is ∙ put.second.first_is

  pub put-number : (cell_at new (a + 1)).second ≡ put.number
  put-number = ap (λ (c : LinkedCell). c.second) second_is ∙ put.second.second_is

  pub put-link : a + 1 < length old → (cell_at new (a + 1)).link ≡ (cell_at old (a + 1)).link
  put-link lt =
      ap (λ (c : LinkedCell). c.link) second_is ∙ put.second.link (omega (arith, lt, put.header.length_is))
      ∙ ap (λ (c : LinkedCell). c.link) (put.header.others (a + 1) (omega arith))

  -- the words of a thread's cell
  thread_is : (t : ℕ) → t < threads → cell_at new (thread_cell a t) ≡ cell_at put.three (thread_cell a t)
  thread_is t lt = put.put_slots.before (thread_cell a t) (omega (arith, lt))

  module _ (few : length counts ≤ threads) where
    -- so many counts
    counts_wide : length (take threads (counts ++ replicate threads 0)) ≡ threads
    counts_wide =
        length-take-le threads (counts ++ replicate threads 0) (omega (arith, length-append counts (replicate threads 0), length-replicate {A = ℕ} threads 0))

    -- the count of a thread
    count_is : (t : ℕ) → t < threads → slice_index counts t ≡ slice_index (take threads (counts ++ replicate threads 0)) t
    count_is t lt = sym (get_or-take threads (counts ++ replicate threads 0) t 0 lt ∙ given)
      where
        given : slice_index (counts ++ replicate threads 0) t ≡ slice_index counts t
        given = elim (cases_lt t (length counts)) [
          | inl within ↦ get_or_append_left counts (replicate threads 0) 0 t within
          | inr past ↦ get_or-append_right counts (replicate threads 0) (length counts) t 0 refl past
              ∙ get_or-replicate threads (t - length counts) 0 0 (omega (arith, lt, past)) ∙ sym (get_or_past counts t 0 past)
        ]

    -- the cells hold a new frame
    pub holds-new : HoldsFrame new slots threads a (new_frame slots threads counts)
    holds-new = record {
      slots_there = length-replicate slots 0;
      threads_there = counts_wide;
      slot = λ s lt. put.put_slots.first s lt ∙ sym (get_or-replicate slots s 0 0 lt);
      count = λ t lt. ap (λ (c : LinkedCell). c.first) (thread_is t lt) ∙ put.put_threads.first t lt ∙ count_is t lt;
      number = λ t lt. ap (λ (c : LinkedCell). c.second) (thread_is t lt) ∙ put.put_threads.second t lt;
      owed = ap (λ (c : LinkedCell). c.first) header_is ∙ put.header.first_is;
      ready_count = ap (λ (c : LinkedCell). c.second) header_is ∙ put.header.second_is;
      linked = refl;
      ready = tt;
      fit = omega (arith, counts_wide, count_by-le-length is_left (take threads (counts ++ replicate threads 0)));
    }

-- the cells of one frame are put, and then hold another; its second header has the mark and its number, and keeps its link where it was there
pub record BeginsFrame (k : CellFrames) (new : CellRow) (f : ℕ) (h : Frame) : Type 0 where
  pub cells : List LinkedCell
  pub table_is : new ≡ record k.table { cells = cells }
  pub length_is : length cells ≡ max (length k.table.cells) (start_of k.slots k.threads f + frame_width k.slots k.threads)
  pub before : (j : ℕ) → j < start_of k.slots k.threads f → cell_at cells j ≡ cell_at k.table.cells j
  pub after : (j : ℕ) → start_of k.slots k.threads f + frame_width k.slots k.threads ≤ j → cell_at cells j ≡ cell_at k.table.cells j
  pub mark : (cell_at cells (second_header k.slots k.threads f)).first ≡ 1
  pub number : (cell_at cells (second_header k.slots k.threads f)).second ≡ f
  pub link : second_header k.slots k.threads f < length k.table.cells
      → (cell_at cells (second_header k.slots k.threads f)).link ≡ (cell_at k.table.cells (second_header k.slots k.threads f)).link
  pub holds : HoldsFrame cells k.slots k.threads (start_of k.slots k.threads f) h

-- a frame is put, call by call
module _ {k : CellFrames} (held : AreHeld k) {view : HeldFrames} (view_is : held_frames k ≡ view) (f start : ℕ) (counts : List ℕ)
    (there : f ≤ length view.frames) (few : length counts ≤ view.threads) (start_is : start ≡ start_of view.slots view.threads f)
    {one two three new : CellRow} (one_is : one ≡ record k.table { cells = with_put k.table.cells start (length counts) 0 })
    (two_is : two ≡ record one { cells = with_put one.cells (start + 1) 1 f }) {threads slots : ℕ} (threads_is : threads ≡ k.threads)
    (slots_is : slots ≡ k.slots) (threads_put : ArePut two.cells three.cells (start + 2) counts threads) (three_room : three.room ≡ two.room)
    (slots_put : ArePut three.cells new.cells (start + 2 + threads) [] slots) (new_room : new.room ≡ three.room) where
  pub begins-by : BeginsFrame k new f (new_frame k.slots k.threads counts)
  begins-by =
      let at : IsNext k view f = is-next held view_is f there in
      let next : start ≤ length k.table.cells = omega (arith, start_is, at.start_is, at.next) in
      let header : IsPut k.table.cells one.cells start (length counts) 0 =
      subst (λ (l : List LinkedCell). IsPut k.table.cells l start (length counts) 0) (sym (ap (λ (r : CellRow). r.cells) one_is))
      (is-put k.table.cells start (length counts) 0 next) in
      let second : IsPut one.cells two.cells (start + 1) 1 f =
      subst (λ (l : List LinkedCell). IsPut one.cells l (start + 1) 1 f) (sym (ap (λ (r : CellRow). r.cells) two_is))
      (is-put one.cells (start + 1) 1 f (omega (arith, header.length_is))) in
      let put : IsFramePut k.table.cells new.cells k.slots k.threads (start_of k.slots k.threads f) counts =
      subst (λ (i : ℕ). IsFramePut k.table.cells new.cells k.slots k.threads i counts) (start_is ∙ at.start_is) (record {
        one = one.cells;
        two = two.cells;
        three = three.cells;
        number = f;
        header = header;
        second = second;
        put_threads = subst (λ (n : ℕ). ArePut two.cells three.cells (start + 2) counts n) threads_is threads_put;
        put_slots =
            subst (λ (n : ℕ). ArePut three.cells new.cells (start + 2 + n) [] k.slots) threads_is
            (subst (λ (n : ℕ). ArePut three.cells new.cells (start + 2 + threads) [] n) slots_is slots_put);
      }) in
      let fewer : length counts ≤ k.threads = omega (arith, few, ap (λ (v : HeldFrames). v.threads) view_is) in
      let room_same : new.room ≡ k.table.room =
      new_room ∙ three_room ∙ ap (λ (r : CellRow). r.room) two_is ∙ ap (λ (r : CellRow). r.room) one_is in
      record {
        cells = new.cells;
        table_is = ap (λ (n : ℕ). record new { room = n }) room_same;
        length_is = put-length put;
        before = put-before put;
        after = put-after put;
        mark = put-mark put;
        number = put-number put;
        link = put-link put;
        holds = holds-new put fewer;
      }

-- another element at a number that is there
pub with-next-there : {X : Type 0} (xs : List X) (f : ℕ) (x : X) → f < length xs → with_next xs f x ≡ slice_set xs f x
with-next-there xs f x lt = ap (λ (b : Bool). elim b [ true ↦ slice_set xs f x | false ↦ xs ++ x ∷ [] ]) (lt-ltb f (length xs) lt)

-- one more
pub with-next-more : {X : Type 0} (xs : List X) (f : ℕ) (x : X) → length xs ≤ f → with_next xs f x ≡ xs ++ x ∷ []
with-next-more xs f x le = ap (λ (b : Bool). elim b [ true ↦ slice_set xs f x | false ↦ xs ++ x ∷ [] ]) (le-ltb f (length xs) le)

module _ {k : CellFrames} (held : AreHeld k) {view : HeldFrames} (view_is : held_frames k ≡ view) {f : ℕ} {new : CellRow} {h : Frame}
    (begins : BeginsFrame k new f h) where
  -- how many marks there are
  lives-count : length view.lives ≡ k.begun
  lives-count =
      ap (λ (v : HeldFrames). length v.lives) (sym view_is)
      ∙ length-listed k.begun (λ g. is_set (cell_at k.table.cells (second_header k.slots k.threads g)).first)

  -- ---- in place of one

  module _ (begun : f < k.begun) where
    rewrites : RewritesFrame k new f h true
    rewrites =
        let fits = frame-fits k.slots k.threads f k.begun begun in
        record {
          cells = begins.cells;
          table_is = begins.table_is;
          length_same = omega (arith, begins.length_is, held.there, fits);
          before = begins.before;
          after = begins.after;
          link_same = begins.link (omega (arith, held.there, fits));
          number_is = begins.number;
          mark_is = ap is_set begins.mark;
          holds = begins.holds;
        }

    pub again-held : AreHeld (record k { table = new })
    again-held = rewritten-held held view_is begun rewrites

    pub again-view : held_frames (record k { table = new }) ≡ begun_with view f h
    again-view =
        rewritten-view held view_is begun rewrites
        ∙ ap₂ (λ (fs : List Frame) (ls : List Bool). record view { frames = fs; lives = ls })
        (sym (with-next-there view.frames f h (omega (arith, begun, count-is held view_is))))
        (sym (with-next-there view.lives f true (omega (arith, begun, lives-count))))

  -- ---- behind the last one

  module _ (room : f < view.room) (last : f ≡ k.begun) where
    abbrev after : CellFrames
    after = record k { table = new; begun = k.begun + 1 }

    abbrev with_cells : CellFrames
    with_cells = record k { table = record k.table { cells = begins.cells }; begun = k.begun + 1 }

    abbrev old_at : ℕ → Frame
    old_at g = frame_in k.table.cells k.slots k.threads (start_of k.slots k.threads g)

    abbrev new_at : ℕ → Frame
    new_at g = frame_in begins.cells k.slots k.threads (start_of k.slots k.threads g)

    abbrev old_mark : ℕ → Bool
    old_mark g = is_set (cell_at k.table.cells (second_header k.slots k.threads g)).first

    abbrev new_mark : ℕ → Bool
    new_mark g = is_set (cell_at begins.cells (second_header k.slots k.threads g)).first

    -- the cells end with the frame
    cells_end : length begins.cells ≡ start_of k.slots k.threads (k.begun + 1)
    cells_end =
        let w : ℕ = frame_width k.slots k.threads in
        let start : start_of k.slots k.threads f ≡ start_of k.slots k.threads k.begun = ap (start_of k.slots k.threads) last in
        let one_more : (k.begun + 1) * w ≡ k.begun * w + w = omega arith in
        omega (arith, begins.length_is, held.there, start, one_more)

    -- the cells of those before it stay
    same : (g : ℕ) → g < k.begun → (j : ℕ) → j < start_of k.slots k.threads g + frame_width k.slots k.threads
        → cell_at begins.cells j ≡ cell_at k.table.cells j
    same g lt j below = let fits = frame-fits k.slots k.threads g f (omega (arith, lt, last)) in begins.before j (omega (arith, below, fits))

    others : (g : ℕ) → g < k.begun → HoldsFrame begins.cells k.slots k.threads (start_of k.slots k.threads g) (old_at g)
    others g lt = holds-still (held.each g lt) begins.cells (λ j inside. same g lt j inside.1)

    header_same : (g : ℕ) → g < k.begun → cell_at begins.cells (second_header k.slots k.threads g) ≡ cell_at k.table.cells (second_header k.slots k.threads g)
    header_same g lt = same g lt (second_header k.slots k.threads g) (omega arith)

    -- each is held
    each : (g : ℕ) → g < k.begun + 1 → HoldsFrame begins.cells k.slots k.threads (start_of k.slots k.threads g) (new_at g)
    each g lt = elim (cases_eq g f) [
      | inl is ↦ subst (λ (e : ℕ). HoldsFrame begins.cells k.slots k.threads (start_of k.slots k.threads e) (new_at e)) (sym is)
          (holds-own begins.holds)
      | inr other ↦ holds-own (others g (omega (arith, lt, other, last)))
    ]

    numbered : AreNumbered begins.cells (record (shape_of k) { begun = k.begun + 1 })
    numbered g lt = elim (cases_eq g f) [
      | inl is ↦ subst (λ (e : ℕ). (cell_at begins.cells (second_header k.slots k.threads e)).second ≡ e) (sym is) begins.number
      | inr other ↦
          let before : g < k.begun = omega (arith, lt, other, last) in
          ap (λ (c : LinkedCell). c.second) (header_same g before) ∙ held.lines.numbered g before
    ]

    keeps : KeepsLines k.table.cells begins.cells (shape_of k)
    keeps = record {
      roots = λ r low. ap (λ (c : LinkedCell). c.link) (begins.before r (omega (arith, low)));
      headers = λ g lt. ap (λ (c : LinkedCell). c.link) (header_same g lt);
      no_fewer = omega (arith, begins.length_is);
    }

    lines : HoldLines begins.cells (record (shape_of k) { begun = k.begun + 1 }) k.queue k.free (numbers_of k.table.cells k.queue) (numbers_of
        k.table.cells k.free)
    lines = lines-stay held.lines keeps (k.begun + 1) (omega arith) numbered

    pub more-held : AreHeld after
    more-held = subst (λ (t : CellRow). AreHeld (record k { table = t; begun = k.begun + 1 })) (sym begins.table_is) (record {
      there = cells_end;
      room_there = held.room_there;
      few = omega (arith, last, room, ap (λ (v : HeldFrames). v.room) view_is);
      small = held.small;
      narrow = held.narrow;
      countable = held.countable;
      each = each;
      lines = lines-own lines;
    })

    pub more-view : held_frames after ≡ begun_with view f h
    more-view =
        let h_is : new_at k.begun ≡ h = ap new_at (sym last) ∙ frame-in-is begins.holds in
        let frames_are : listed (k.begun + 1) new_at ≡ listed k.begun old_at ++ h ∷ [] =
        listed-more k.begun new_at
        ∙ ap₂ (λ (l : List Frame) (x : Frame). l ++ x ∷ []) (listed-same k.begun new_at old_at no_frame (λ g lt. frame-in-is (others g lt))) h_is in
        let mark_is : new_mark k.begun ≡ true = ap new_mark (sym last) ∙ ap is_set begins.mark in
        let lives_are : listed (k.begun + 1) new_mark ≡ listed k.begun old_mark ++ true ∷ [] =
        listed-more k.begun new_mark
        ∙ ap₂ (λ (l : List Bool) (x : Bool). l ++ x ∷ [])
        (listed-same k.begun new_mark old_mark false (λ g lt. ap (λ (c : LinkedCell). is_set c.first) (header_same g lt))) mark_is in
        let queue_is : numbers_of begins.cells k.queue ≡ numbers_of k.table.cells k.queue = numbers-are lines.queue_held numbered in
        let free_is : numbers_of begins.cells k.free ≡ numbers_of k.table.cells k.free = numbers-are lines.free_held numbered in
        let all_are : held_frames with_cells ≡ record (held_frames k) {
          frames = (held_frames k).frames ++ h ∷ [];
          lives = (held_frames k).lives ++ true ∷ [];
        } =
        λ j. record (held_frames k) { frames = frames_are j; lives = lives_are j; queue = queue_is j; free = free_is j } in
        ap (λ (t : CellRow). held_frames (record k { table = t; begun = k.begun + 1 })) begins.table_is ∙ all_are
        ∙ ap (λ (v : HeldFrames). record v { frames = v.frames ++ h ∷ []; lives = v.lives ++ true ∷ [] }) view_is
        ∙ ap₂ (λ (fs : List Frame) (ls : List Bool). record view { frames = fs; lives = ls })
        (sym (with-next-more view.frames f h (omega (arith, last, count-is held view_is))))
        (sym (with-next-more view.lives f true (omega (arith, last, lives-count))))
