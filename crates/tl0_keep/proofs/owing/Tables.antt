-- A table of frames in which none owes: what each word on tables says of it.
use Rattle.std.proofs.Common.{◌≡◌, ℕ, zero, suc, ◌-◌, List, [], ◌∷◌, ◌++◌, map, Option, Some, None, slice_get, slice_index, slice_set, refl, sym, ap, ◌∙◌}
use Rattle.std.proofs.lemmas.List.{map-set, map-append, length-map}
use Rattle.frame_tables.specs.FrameTables.{Frame, FrameTable, or_frame, frame_at, is_some_frame, is_live, changed_in, changed, next_number_of}
use Rattle.frame_tables.specs.FrameTables.{next_number, with_new, taken, new_frame}
use Rattle.frame_tables.specs.FrameTables.{lowered, slot_in, with_slot, with_count, made_ready, spent_of, spent, count_in, current_of, rested, given_of}
use Rattle.frame_tables.specs.FrameTables.{next_of, next_thread}
use Rattle.frame_tables.specs.FrameTables.{is_ready_of, is_ready}
use Rattle.tl0_keep.specs.ThreadLaws.{without_owed, table_without_owed}

-- a frame as one that owes nothing
abbrev pub bare : Frame → Frame
bare h = record h { owed = 0 }

-- a table with other frames
abbrev pub with_frames : FrameTable → List (Option Frame) → FrameTable
with_frames s hs = record s { frames = hs }

-- twice is once
frame-twice : (h : Option Frame) → without_owed (without_owed h) ≡ without_owed h
frame-twice None = refl
frame-twice (Some h) = refl

frames-twice : (hs : List (Option Frame)) → map without_owed (map without_owed hs) ≡ map without_owed hs
frames-twice [] = refl
frames-twice (h ∷ hs) = ap (λ x. x ∷ map without_owed (map without_owed hs)) (frame-twice h) ∙ ap (λ l. without_owed h ∷ l) (frames-twice hs)

-- a table without what is owed stays so
pub table-twice : (s : FrameTable) → table_without_owed (table_without_owed s) ≡ table_without_owed s
table-twice s = ap (with_frames s) (frames-twice s.frames)

-- ---- one frame

frame-in : (hs : List (Option Frame)) (f : ℕ) → or_frame (slice_get (map without_owed hs) f) ≡ bare (or_frame (slice_get hs f))
frame-in [] f = refl
frame-in (None ∷ hs) zero = refl
frame-in (Some h ∷ hs) zero = refl
frame-in (h ∷ hs) (suc f) = frame-in hs f

-- frame f owes nothing, and is as it was
pub frame_at-bare : (s : FrameTable) (f : ℕ) → frame_at (table_without_owed s) f ≡ bare (frame_at s f)
frame_at-bare s f = frame-in s.frames f

live-in : (hs : List (Option Frame)) (f : ℕ) → is_some_frame (slice_get (map without_owed hs) f) ≡ is_some_frame (slice_get hs f)
live-in [] f = refl
live-in (None ∷ hs) zero = refl
live-in (Some h ∷ hs) zero = refl
live-in (h ∷ hs) (suc f) = live-in hs f

-- the same frames are live
pub is_live-bare : (s : FrameTable) (f : ℕ) → is_live (table_without_owed s) f ≡ is_live s f
is_live-bare s f = live-in s.frames f

-- the same slots
pub slot_in-bare : (s : FrameTable) (f a : ℕ) → slot_in (table_without_owed s) f a ≡ slot_in s f a
slot_in-bare s f a = ap (λ (h : Frame). slice_index h.slots a) (frame_at-bare s f)

-- ---- a frame changed

changed-in : (hs : List (Option Frame)) (f : ℕ) (change : Frame → Frame) → ((h : Frame) → bare (change h) ≡ change (bare h))
    → map without_owed (changed_in hs f change) ≡ changed_in (map without_owed hs) f change
changed-in [] f change same = refl
changed-in (None ∷ hs) zero change same = refl
changed-in (Some h ∷ hs) zero change same = ap (λ (x : Frame). Some x ∷ map without_owed hs) (same h)
changed-in (None ∷ hs) (suc f) change same = ap (λ l. None ∷ l) (changed-in hs f change same)
changed-in (Some h ∷ hs) (suc f) change same = ap (λ l. Some (bare h) ∷ l) (changed-in hs f change same)

-- a change that doesn't look at what is owed
pub changed-bare : (s : FrameTable) (f : ℕ) (change : Frame → Frame) → ((h : Frame) → bare (change h) ≡ change (bare h))
    → table_without_owed (changed s f change) ≡ changed (table_without_owed s) f change
changed-bare s f change same = ap (with_frames s) (changed-in s.frames f change same)

lowered-in : (hs : List (Option Frame)) (f : ℕ) (change : Frame → Frame) → ((h : Frame) → bare (change h) ≡ bare h)
    → map without_owed (changed_in hs f change) ≡ map without_owed hs
lowered-in [] f change same = refl
lowered-in (None ∷ hs) zero change same = refl
lowered-in (Some h ∷ hs) zero change same = ap (λ (x : Frame). Some x ∷ map without_owed hs) (same h)
lowered-in (None ∷ hs) (suc f) change same = ap (λ l. None ∷ l) (lowered-in hs f change same)
lowered-in (Some h ∷ hs) (suc f) change same = ap (λ l. Some (bare h) ∷ l) (lowered-in hs f change same)

-- one that changes nothing else
pub lowered-bare : (s : FrameTable) (f n : ℕ) → table_without_owed (lowered s f n) ≡ table_without_owed s
lowered-bare s f n = ap (with_frames s) (lowered-in s.frames f (λ h. record h { owed = h.owed - n }) (λ h. refl))

-- a slot is set
pub with_slot-bare : (s : FrameTable) (f a w : ℕ) → table_without_owed (with_slot s f a w) ≡ with_slot (table_without_owed s) f a w
with_slot-bare s f a w = changed-bare s f (λ h. record h { slots = slice_set h.slots a w }) (λ h. refl)

-- an entry count is set
with_count-bare : (s : FrameTable) (f t n : ℕ) → table_without_owed (with_count s f t n) ≡ with_count (table_without_owed s) f t n
with_count-bare s f t n = changed-bare s f (λ h. record h { counts = slice_set h.counts t n }) (λ h. refl)

-- a thread is ready
made_ready-bare : (s : FrameTable) (f t : ℕ) → table_without_owed (made_ready s f t) ≡ made_ready (table_without_owed s) f t
made_ready-bare s f t = ap (with_frames (made_ready s f t)) (changed-in s.frames f (λ h. record h { ready = t ∷ h.ready }) (λ h. refl))

spent_of-bare : (s : FrameTable) (f t n : ℕ) → table_without_owed (spent_of s f t n) ≡ spent_of (table_without_owed s) f t n
spent_of-bare s f t zero = refl
spent_of-bare s f t (suc zero) = made_ready-bare (with_count s f t 0) f t ∙ ap (λ (x : FrameTable). made_ready x f t) (with_count-bare s f t 0)
spent_of-bare s f t (suc (suc n)) = with_count-bare s f t (suc n)

-- one of an entry count is spent
pub spent-bare : (s : FrameTable) (f t : ℕ) → table_without_owed (spent s f t) ≡ spent (table_without_owed s) f t
spent-bare s f t = spent_of-bare s f t (count_in s f t)
    ∙ ap (λ (h : Frame). spent_of (table_without_owed s) f t (slice_index h.counts t)) (sym (frame_at-bare s f))

-- ---- a frame begins

-- the same next number
pub next_number-bare : (s : FrameTable) → next_number (table_without_owed s) ≡ next_number s
next_number-bare s = ap (next_number_of s.free) (length-map s.frames without_owed)

with_new-bare : (s : FrameTable) (free : List ℕ) (h : Frame)
    → table_without_owed (with_new (table_without_owed s) free h) ≡ table_without_owed (with_new s free h)
with_new-bare s [] h = ap (with_frames s) (map-append without_owed (map without_owed s.frames) (Some h ∷ [])
    ∙ (ap (λ l. l ++ Some (bare h) ∷ []) (frames-twice s.frames) ∙ sym (map-append without_owed s.frames (Some h ∷ []))))
with_new-bare s (f ∷ free) h = ap (λ (l : List (Option Frame)). record s { frames = l; free = free }) (map-set without_owed (map without_owed s.frames) f
    (Some h)
    ∙ (ap (λ l. slice_set l f (Some (bare h))) (frames-twice s.frames) ∙ sym (map-set without_owed s.frames f (Some h))))

-- a frame is taken
pub taken-bare : (s : FrameTable) (slots threads : ℕ) (counts : List ℕ)
    → table_without_owed (taken (table_without_owed s) slots threads counts) ≡ table_without_owed (taken s slots threads counts)
taken-bare s slots threads counts = with_new-bare s s.free (new_frame slots threads counts)

-- ---- turns

current_of-bare : (s : FrameTable) (c : Option ℕ) → current_of (table_without_owed s) c ≡ current_of s c
current_of-bare s None = refl
current_of-bare s (Some f) = ap (λ (h : Frame). elim h.ready [ [] ↦ None | t ∷ ts ↦ Some f ]) (frame_at-bare s f)

-- the current frame's turn ends alike
pub rested-bare : (s : FrameTable) → table_without_owed (rested s) ≡ rested (table_without_owed s)
rested-bare s = ap (λ (c : Option ℕ). record (table_without_owed s) { current = c }) (sym (current_of-bare s s.current))

-- what is chosen, with the table behind
abbrev pub bare_next : Option (ℕ × ℕ) × FrameTable → Option (ℕ × ℕ) × FrameTable
bare_next (o, s) = (o, table_without_owed s)

given_of-bare : (s : FrameTable) (f : ℕ) (ready : List ℕ) → given_of (table_without_owed s) f ready ≡ bare_next (given_of s f ready)
given_of-bare s f [] = refl
given_of-bare s f (t ∷ ts) = ap (λ (l : List (Option Frame)). (Some (f, t), record s { frames = l; current = Some f }))
    (sym (changed-in s.frames f (λ h. record h { ready = ts }) (λ h. refl)))

next_of-bare : (s : FrameTable) (c : Option ℕ) (queue : List ℕ) → next_of (table_without_owed s) c queue ≡ bare_next (next_of s c queue)
next_of-bare s (Some f) queue = ap (λ (h : Frame). given_of (table_without_owed s) f h.ready) (frame_at-bare s f) ∙ given_of-bare s f (frame_at s f).ready
next_of-bare s None [] = refl
next_of-bare s None (f ∷ queue) = let t : FrameTable = record s { queue = queue } in
    ap (λ (h : Frame). given_of (table_without_owed t) f h.ready) (frame_at-bare s f) ∙ given_of-bare t f (frame_at s f).ready

-- the same thread is next
pub next_thread-bare : (s : FrameTable) → next_thread (table_without_owed s) ≡ bare_next (next_thread s)
next_thread-bare s =
    ap (λ (r : FrameTable). next_of r r.current s.queue) (sym (rested-bare s)) ∙ next_of-bare (rested s) (rested s).current s.queue

-- some thread is ready
pub is_ready-bare : (s : FrameTable) → is_ready (table_without_owed s) ≡ is_ready s
is_ready-bare s = ap (λ (c : Option ℕ). is_ready_of c s.queue) (current_of-bare s s.current)
