-- A table of frames with the room that is reserved for it, and what is kept of each table.
-- The rule in words: docs/THREADS.md, "Frames".
use Rattle.std.specs.Prelude.{ℕ, zero, suc, ◌≡◌, ◌<◌, Bool, true, false, List, [], ◌∷◌, Option, Some, slice_get, slice_set, slice_index, length}
use Rattle.std.specs.Prelude.{drop}
use Rattle.frame_tables.specs.FrameTables.{Frame, FrameTable, no_frames, frame_at, changed}

-- a table, how many of its frames may be live, and how many slots and threads each has
pub record StoredFrames : Type 0 where
  pub table : FrameTable
  pub count : ℕ
  pub slots : ℕ
  pub threads : ℕ

-- the same room with another table
abbrev pub with_table : StoredFrames → FrameTable → StoredFrames
with_table s table = record s { table = table }

-- the same room with other frames
abbrev pub with_frames : StoredFrames → FrameTable → StoredFrames
with_frames s table = record s { table = record s.table { frames = table.frames } }

-- the same room with another queue
abbrev pub with_queue : StoredFrames → List ℕ → StoredFrames
with_queue s queue = record s { table = record s.table { queue = queue } }

-- the same room with another current frame, or none
abbrev pub with_current : StoredFrames → Option ℕ → StoredFrames
with_current s current = record s { table = record s.table { current = current } }

-- before the first frame
abbrev pub none_taken : ℕ → ℕ → ℕ → StoredFrames
none_taken count slots threads = record { table = no_frames; count = count; slots = slots; threads = threads }

-- the list has an element
abbrev pub has_any : List ℕ → Bool
has_any [] = false
has_any (t ∷ ts) = true

-- a thread of frame f is ready
abbrev pub is_busy : FrameTable → ℕ → Bool
is_busy s f = has_any (frame_at s f).ready

-- a frame has so many slots and threads, and those that are ready are some of them
pub record IsSized (slots threads : ℕ) (h : Frame) : Type 0 where
  pub slots_there : length h.slots ≡ slots
  pub threads_there : length h.counts ≡ threads
  pub ready_there : (i t : ℕ) → slice_get h.ready i ≡ Some t → t < threads

-- one of the entry count n of a frame's thread t is spent
abbrev pub frame_spent_of : Frame → ℕ → ℕ → Frame
frame_spent_of h t zero = h
frame_spent_of h t (suc zero) = record h { counts = slice_set h.counts t 0; ready = t ∷ h.ready }
frame_spent_of h t (suc (suc n)) = record h { counts = slice_set h.counts t (suc n) }

-- one of the entry count of a frame's thread t is spent
abbrev pub frame_spent : Frame → ℕ → Frame
frame_spent h t = frame_spent_of h t (slice_index h.counts t)

-- the thread that became ready last has left the ready list
abbrev pub frame_popped : Frame → Frame
frame_popped h = record h { ready = drop 1 h.ready }

-- the same of frame f
abbrev pub popped : FrameTable → ℕ → FrameTable
popped s f = changed s f frame_popped
