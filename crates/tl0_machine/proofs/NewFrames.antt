-- What a frame that was taken has, and what is kept where an activation begins.
use Rattle.std.proofs.Common.{◌≡◌, ◌∙◌, ℕ, zero, suc, ◌<◌, ◌≤◌, ◌==◌, Bool, true, false, List, [], ◌∷◌, ◌++◌, length, take, replicate, Option, Some}
use Rattle.std.proofs.Common.{refl, sym, ap, subst, arith}
use Rattle.std.specs.Prelude.{slice_get, slice_set, slice_index, vec_capacity}
use Rattle.tam_word.specs.Lists.{put_at}
use Rattle.tam_word.proofs.Each.{get-last}
use Rattle.tam_word.proofs.PutAt.{slice_index_or-put_at}
use Rattle.tam_msgs.specs.declared.limits.Limits.{Limits}
use Rattle.tam_istr.specs.Cells.{Arrays, cells_used}
use Rattle.frame_tables.specs.FrameTables.{Frame, FrameTable, or_frame, is_some_frame, is_live, frame_at, count_in, new_frame, with_new, next_number_of}
use Rattle.frame_tables.specs.FrameTables.{next_number, taken, with_slot}
use Rattle.tam_frames.specs.StoredFrames.{StoredFrames, with_table}
use Rattle.tam_frames.proofs.LiveLemmas.{live-changed}
use Rattle.tl0_code.specs.ThreadCode.{Program}
use Rattle.tl0_machine.specs.declared.thread_state.ThreadState.{ThreadState}
use Rattle.tl0_machine.specs.ThreadStates.{AreCodes, IsKept}
use Rattle.tl0_machine.proofs.Stopping.{frame-changed}

-- ---- the codes of frames

-- a place past the end gets one blank more
pub put_at-longer : (n x : ℕ) (xs : List ℕ) → length xs ≤ n → put_at 0 n x (xs ++ 0 ∷ []) ≡ put_at 0 n x xs
put_at-longer zero x [] short = refl
put_at-longer (suc n) x [] short = refl
put_at-longer zero x (y ∷ ys) short = absurd (omega arith)
put_at-longer (suc n) x (y ∷ ys) short = ap (λ (l : List ℕ). y ∷ l) (put_at-longer n x ys (omega arith))

-- an element is set at a place of a list
pub put_at-inside : (n x : ℕ) (xs : List ℕ) → n < length xs → slice_set xs n x ≡ put_at 0 n x xs
put_at-inside n x [] inside = absurd (omega arith)
put_at-inside zero x (y ∷ ys) inside = refl
put_at-inside (suc n) x (y ∷ ys) inside = ap (λ (l : List ℕ). y ∷ l) (put_at-inside n x ys (omega arith))

-- frames are of codes that are there, also where one is of a further code
pub codes-put : (p : Program) (codes : List ℕ) (f c : ℕ) → AreCodes p codes → c < length p.codes → AreCodes p (put_at 0 f c codes)
codes-put p codes f c are there g =
    subst (λ (n : ℕ). n < length p.codes) (sym (slice_index_or-put_at 0 f c codes g)) (go (f == g))
  where
    go : (b : Bool) → elim b [ true ↦ c | false ↦ slice_index codes g ] < length p.codes
    go true = there
    go false = are g

-- ---- the frame that was taken

-- where a frame was set and stands, it is that one
set-there : (frames : List (Option Frame)) (f : ℕ) (h : Frame) → is_some_frame (slice_get (slice_set frames f (Some h)) f) ≡ true
    → or_frame (slice_get (slice_set frames f (Some h)) f) ≡ h
set-there [] f h live = absurd cc
set-there (g ∷ frames) zero h live = refl
set-there (g ∷ frames) (suc f) h live = set-there frames f h live

-- a frame that was taken and is live is new
pub frame-new : (s : FrameTable) (h : Frame) (free : List ℕ) → is_live (with_new s free h) (next_number_of free (length s.frames)) ≡ true
    → frame_at (with_new s free h) (next_number_of free (length s.frames)) ≡ h
frame-new s h [] live = ap or_frame (get-last s.frames (Some h))
frame-new s h (f ∷ free) live = set-there s.frames f h live

-- the first count of a new frame is the first that was given
first-count : (threads : ℕ) (counts : List ℕ) → length counts ≤ threads → 0 < slice_index counts 0
    → 0 < slice_index (take threads (counts ++ replicate threads 0)) 0
first-count threads [] fit some = absurd (omega arith)
first-count zero (n ∷ counts) fit some = absurd (omega arith)
first-count (suc threads) (n ∷ counts) fit some = some

-- of thread 0 of a frame that was taken something is left
pub count-taken : (s : FrameTable) (slots threads : ℕ) (counts : List ℕ) → length counts ≤ threads → 0 < slice_index counts 0
    → is_live (taken s slots threads counts) (next_number s) ≡ true → 0 < count_in (taken s slots threads counts) (next_number s) 0
count-taken s slots threads counts fit some live =
    subst (λ (h : Frame). 0 < slice_index h.counts 0) (sym (frame-new s (new_frame slots threads counts) s.free live)) (first-count threads counts fit some)

module _ (s t : StoredFrames) (f a w : ℕ) (put : t ≡ with_table s (with_slot s.table f a w)) (live : is_live s.table f ≡ true) where
  -- a frame stays live where a slot of it gets a word
  pub live-put : is_live t.table f ≡ true
  live-put = ap (λ (v : StoredFrames). is_live v.table f) put ∙ (live-changed s.table f f (λ h. record h { slots = slice_set h.slots a w }) ∙ live)

  -- and its counts stay
  pub count-put : (n : ℕ) → count_in t.table f n ≡ count_in s.table f n
  count-put n = ap (λ (v : StoredFrames). count_in v.table f n) put
      ∙ ap (λ (h : Frame). slice_index h.counts n) (frame-changed s.table f (λ h. record h { slots = slice_set h.slots a w }) live)

-- ---- what is kept

-- what the begin of an activation leaves as it was: the frames' room and that of their codes, the cells, what was printed and the events
abbrev pub beside_begun : ThreadState → (ℕ × ℕ × ℕ × ℕ) × Arrays × List Bool × ℕ
beside_begun s = ((s.frames.count, s.frames.slots, s.frames.threads, vec_capacity s.codes), s.cells, s.printed.items, s.events)

-- the same as a type
abbrev Beside : Type 0
Beside = (ℕ × ℕ × ℕ × ℕ) × Arrays × List Bool × ℕ

-- where that stays and frames are of codes that are there, all that is kept is kept
pub kept-begun : (p : Program) (limits : Limits) (old new : ThreadState) → beside_begun new ≡ beside_begun old → AreCodes p new.codes.items
    → IsKept p limits old → IsKept p limits new
kept-begun p limits old new same codes kept =
    let cells : new.cells ≡ old.cells = ap (λ (b : Beside). b.1) same in
    let arrays : length new.cells ≡ length old.cells = ap length cells in
    let used : cells_used new.cells ≡ cells_used old.cells = ap cells_used cells in
    let events : new.events ≡ old.events = ap (λ (b : Beside). b.3) same in
    record {
      frames = ap (λ (b : Beside). b.0.0) same ∙ kept.frames;
      slots = ap (λ (b : Beside). b.0.1) same ∙ kept.slots;
      threads = ap (λ (b : Beside). b.0.2) same ∙ kept.threads;
      codes = codes;
      code_room = subst (λ (room : ℕ). limits.frames ≤ room) (sym (ap (λ (b : Beside). b.0.3) same)) kept.code_room;
      arrays = omega (arith, arrays, events, kept.arrays);
      cells = omega (arith, used, kept.cells);
      events = omega (arith, events, kept.events);
      marks = ap (λ (b : Beside). length b.2) same ∙ kept.marks;
    }
