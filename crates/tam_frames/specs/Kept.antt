-- What the code keeps of frames and of their turns, and what holds of it.
-- The rule in words: docs/THREADS.md, "Frames".
use Rattle.std.specs.Prelude.{ℕ, ◌≡◌, ◌+◌, ◌≤◌, Bool, true, false, cond, List, [], ◌∷◌, Option, Some, None, slice_get, length, count_by}
use Rattle.frame_tables.specs.FrameTables.{Frame, FrameTable, is_held, is_live, is_current, is_queued}
use Rattle.tam_frames.specs.StoredFrames.{StoredFrames, is_busy}
use Rattle.tam_frames.specs.HeldFrames.{HeldFrames, AreSized}

-- each free number is one of the table, no frame stands there, and none is listed twice
abbrev pub AreFree : List (Option Frame) → List ℕ → Type 0
AreFree frames [] = Unit {0}
AreFree frames (f ∷ free) = (slice_get frames f ≡ Some None) × ((is_queued free f ≡ false) × AreFree frames free)

-- each frame at a number below that many, where it is live
abbrev pub shown : List Bool → List Frame → List (Option Frame)
shown [] rows = []
shown (live ∷ lives) [] = []
shown (live ∷ lives) (h ∷ rows) = cond live (Some h) None ∷ shown lives rows

-- what the code keeps of frames: those that have begun, how many are live, and how many may be
pub record Storage : Type 0 where
  pub held : HeldFrames
  pub used : ℕ
  pub count : ℕ

-- the frames that are live
abbrev pub shown_of : Storage → List (Option Frame)
shown_of s = shown s.held.lives s.held.frames

-- what is said of them: all but whose turn it is
abbrev pub stored : Storage → StoredFrames
stored s = record {
  table = record { frames = shown_of s; free = s.held.free; queue = s.held.queue; current = None };
  count = s.count;
  slots = s.held.slots;
  threads = s.held.threads;
}

-- all frames are of that size; the free numbers are those without a live frame; and there is room for as many as may be live
pub record IsStored (s : Storage) : Type 0 where
  pub sized : AreSized s.held.slots s.held.threads s.held.frames
  pub lives_there : length s.held.lives ≡ length s.held.frames
  pub room_there : s.held.room ≡ s.count
  pub are_free : AreFree (shown_of s) s.held.free
  pub free_counted : count_by is_held (shown_of s) + length s.held.free ≡ length s.held.frames
  pub used_counted : count_by is_held (shown_of s) ≡ s.used
  pub few : length s.held.frames ≤ s.count

-- no number is listed twice
abbrev pub IsDistinctQueue : List ℕ → Type 0
IsDistinctQueue [] = Unit {0}
IsDistinctQueue (f ∷ queue) = (is_queued queue f ≡ false) × IsDistinctQueue queue

-- the current frame is live and doesn't wait, and each other frame waits, once, where a thread of it is ready
pub record AreInTurn (s : FrameTable) : Type 0 where
  pub live : (f : ℕ) → is_current s.current f ≡ true → is_live s f ≡ true
  pub apart : (f : ℕ) → is_current s.current f ≡ true → is_queued s.queue f ≡ false
  pub waits : (f : ℕ) → is_current s.current f ≡ false → is_queued s.queue f ≡ is_busy s f
  pub distinct : IsDistinctQueue s.queue
