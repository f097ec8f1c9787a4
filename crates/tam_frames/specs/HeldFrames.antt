-- The frames that the code keeps, live or not.
-- The rule in words: docs/THREADS.md, "Frames".
use Rattle.std.specs.Prelude.{ℕ, zero, suc, ◌≡◌, Bool, true, false, not, nat_lt, List, [], ◌∷◌, ◌++◌, Some, slice_get, slice_set, slice_index, length, get_or}
use Rattle.frame_tables.specs.FrameTables.{Frame, no_frame, is_queued}
use Rattle.tam_frames.specs.StoredFrames.{IsSized, has_any}

-- the frames begun so far, by their numbers; which are live; the queue of those that wait, the first one first; the free numbers, the latest first; for how
-- many frames there is room; and how many slots and threads each has
pub record HeldFrames : Type 0 where
  pub frames : List Frame
  pub lives : List Bool
  pub queue : List ℕ
  pub free : List ℕ
  pub room : ℕ
  pub slots : ℕ
  pub threads : ℕ

-- before the first frame
abbrev pub none_begun : ℕ → ℕ → ℕ → HeldFrames
none_begun room slots threads = record { frames = []; lives = []; queue = []; free = []; room = room; slots = slots; threads = threads }

-- frame f of a list
abbrev pub held_at : List Frame → ℕ → Frame
held_at frames f = get_or frames f no_frame

-- frame f is this one
abbrev pub held_with : HeldFrames → ℕ → Frame → HeldFrames
held_with held f h = record held { frames = slice_set held.frames f h }

-- the element at number f, or one more where f is the next number
abbrev pub with_next : {X : Type 0} → List X → ℕ → X → List X
with_next xs f x = elim (nat_lt f (length xs)) [ true ↦ slice_set xs f x | false ↦ xs ++ x ∷ [] ]

-- frame f has begun, and is live
abbrev pub begun_with : HeldFrames → ℕ → Frame → HeldFrames
begun_with held f h = record held { frames = with_next held.frames f h; lives = with_next held.lives f true }

-- frame f is live no more, and its number is the first of the free ones
abbrev pub freed : HeldFrames → ℕ → HeldFrames
freed held f = record held { lives = slice_set held.lives f false; free = f ∷ held.free }

-- frame f neither waits nor is free
pub record IsInNoLine (held : HeldFrames) (f : ℕ) : Type 0 where
  pub not_waiting : is_queued held.queue f ≡ false
  pub not_free : is_queued held.free f ≡ false

-- whether spending makes a thread the only ready one of its frame, by its entry count before
abbrev pub wakes_of : Frame → ℕ → Bool
wakes_of h zero = false
wakes_of h (suc zero) = not (has_any h.ready)
wakes_of h (suc (suc n)) = false

-- whether spending makes thread t the only ready one
abbrev pub wakes : Frame → ℕ → Bool
wakes h t = wakes_of h (slice_index h.counts t)

-- each frame of a list is of this size
abbrev pub AreSized : ℕ → ℕ → List Frame → Type 0
AreSized slots threads frames = (f : ℕ) (h : Frame) → slice_get frames f ≡ Some h → IsSized slots threads h

-- an entry count isn't used up
abbrev pub is_left : ℕ → Bool
is_left n = nat_lt 0 n
