-- The frames as lists: of each live one its slots, its entry counts, how many threads it owes and which are ready; the free numbers and the queue.
-- The rule in words: docs/THREADS.md, "Frames".
use Rattle.std.specs.Prelude.{ℕ, zero, suc, ◌-◌, ◌==◌, Bool, true, false, List, [], ◌∷◌, ◌++◌, Option, Some, None, slice_get, slice_set, slice_index, replicate}
use Rattle.std.specs.Prelude.{length, take, count_by}
use Rattle.frame_tables.specs.declared.answers.Spend.{Spend}
use Rattle.frame_tables.specs.declared.answers.Spend.TheVariants.{Left, Enabled, Spent}

-- a live frame
pub record Frame : Type 0 where
  pub slots : List ℕ
  pub counts : List ℕ  -- the entry count that is left of each thread
  pub owed : ℕ  -- how many threads have neither run nor been skipped
  pub ready : List ℕ  -- the latest first

-- the frames by their numbers, none at a number that is free; the free numbers, the latest first; the queue of frames with ready threads; the current frame
pub record FrameTable : Type 0 where
  pub frames : List (Option Frame)
  pub free : List ℕ
  pub queue : List ℕ
  pub current : Option ℕ

-- before the first frame
abbrev pub no_frames : FrameTable
no_frames = record { frames = []; free = []; queue = []; current = None }

-- what stands for a frame that isn't there
abbrev pub no_frame : Frame
no_frame = record { slots = []; counts = []; owed = 0; ready = [] }

-- a frame, by what stands at its number
abbrev pub or_frame : Option (Option Frame) → Frame
or_frame None = no_frame
or_frame (Some None) = no_frame
or_frame (Some (Some h)) = h

-- frame f
abbrev pub frame_at : FrameTable → ℕ → Frame
frame_at s f = or_frame (slice_get s.frames f)

-- a frame is held at a number that isn't free
abbrev pub is_held : Option Frame → Bool
is_held None = false
is_held (Some h) = true

-- what stands at a number is a frame
abbrev pub is_some_frame : Option (Option Frame) → Bool
is_some_frame None = false
is_some_frame (Some h) = is_held h

-- frame f is live
abbrev pub is_live : FrameTable → ℕ → Bool
is_live s f = is_some_frame (slice_get s.frames f)

-- how many frames are live
abbrev pub live_count : FrameTable → ℕ
live_count s = count_by is_held s.frames

-- the frames with frame f changed, where it is live
abbrev pub changed_in : List (Option Frame) → ℕ → (Frame → Frame) → List (Option Frame)
changed_in [] f change = []
changed_in (None ∷ hs) zero change = None ∷ hs
changed_in (Some h ∷ hs) zero change = Some (change h) ∷ hs
changed_in (h ∷ hs) (suc f) change = h ∷ changed_in hs f change

-- the table with frame f changed
abbrev pub changed : FrameTable → ℕ → (Frame → Frame) → FrameTable
changed s f change = record s { frames = changed_in s.frames f change }

-- ---- a frame begins and is given back

-- the number that was given back last and not taken since, else the least that was never used
abbrev pub next_number_of : List ℕ → ℕ → ℕ
next_number_of [] n = n
next_number_of (f ∷ free) n = f

-- the number of the next frame
abbrev pub next_number : FrameTable → ℕ
next_number s = next_number_of s.free (length s.frames)

-- a new frame: its slots are 0, its counts are those given, further threads have count 0, and it owes those given
abbrev pub new_frame : ℕ → ℕ → List ℕ → Frame
new_frame slots threads counts = record {
  slots = replicate slots 0;
  counts = take threads (counts ++ replicate threads 0);
  owed = length counts;
  ready = [];
}

-- the table with a new frame, by the free numbers
abbrev pub with_new : FrameTable → List ℕ → Frame → FrameTable
with_new s [] h = record s { frames = s.frames ++ Some h ∷ [] }
with_new s (f ∷ free) h = record s { frames = slice_set s.frames f (Some h); free = free }

-- a frame is taken: it has the next number
abbrev pub taken : FrameTable → ℕ → ℕ → List ℕ → FrameTable
taken s slots threads counts = with_new s s.free (new_frame slots threads counts)

-- the frame is the current one
abbrev pub is_current : Option ℕ → ℕ → Bool
is_current None f = false
is_current (Some c) f = c == f

-- frame f is given back: its number is the first of the free ones, and it is no longer current
abbrev pub given_back : FrameTable → ℕ → FrameTable
given_back s f = record s {
  frames = slice_set s.frames f None;
  free = f ∷ s.free;
  current = elim (is_current s.current f) [ true ↦ None | false ↦ s.current ];
}

-- frame f owes n less
abbrev pub lowered : FrameTable → ℕ → ℕ → FrameTable
lowered s f n = changed s f (λ h. record h { owed = h.owed - n })

-- ---- slots

-- slot a of frame f
abbrev pub slot_in : FrameTable → ℕ → ℕ → ℕ
slot_in s f a = slice_index (frame_at s f).slots a

-- slot a of frame f has the word w
abbrev pub with_slot : FrameTable → ℕ → ℕ → ℕ → FrameTable
with_slot s f a w = changed s f (λ h. record h { slots = slice_set h.slots a w })

-- ---- threads

-- the number stands in the queue
abbrev pub is_queued : List ℕ → ℕ → Bool
is_queued [] f = false
is_queued (q ∷ qs) f = elim (q == f) [ true ↦ true | false ↦ is_queued qs f ]

-- a frame that is neither current nor queued joins the queue at its end
abbrev pub queue_with : FrameTable → ℕ → List ℕ
queue_with s f = elim (is_current s.current f) [ true ↦ s.queue | false ↦ elim (is_queued s.queue f) [ true ↦ s.queue | false ↦ s.queue ++ f ∷ [] ] ]

-- thread t of frame f is ready: it goes to the front of its frame's list
abbrev pub made_ready : FrameTable → ℕ → ℕ → FrameTable
made_ready s f t = record (changed s f (λ h. record h { ready = t ∷ h.ready })) { queue = queue_with s f }

-- the entry count of thread t is n
abbrev pub with_count : FrameTable → ℕ → ℕ → ℕ → FrameTable
with_count s f t n = changed s f (λ h. record h { counts = slice_set h.counts t n })

-- one of an entry count is spent: nothing at 0, one less above 1, and at 1 the thread is ready
abbrev pub spent_of : FrameTable → ℕ → ℕ → ℕ → FrameTable
spent_of s f t zero = s
spent_of s f t (suc zero) = made_ready (with_count s f t 0) f t
spent_of s f t (suc (suc n)) = with_count s f t (suc n)

-- the entry count that is left of thread t of frame f
abbrev pub count_in : FrameTable → ℕ → ℕ → ℕ
count_in s f t = slice_index (frame_at s f).counts t

-- the same of thread t of frame f
abbrev pub spent : FrameTable → ℕ → ℕ → FrameTable
spent s f t = spent_of s f t (count_in s f t)

-- what spending answers, by the count before
abbrev pub spend_answer : ℕ → Spend
spend_answer zero = Spent
spend_answer (suc zero) = Enabled
spend_answer (suc (suc n)) = Left

-- ---- turns

-- the current frame's turn ends where none of its threads is ready
abbrev pub current_of : FrameTable → Option ℕ → Option ℕ
current_of s None = None
current_of s (Some f) = elim (frame_at s f).ready [ [] ↦ None | t ∷ ts ↦ Some f ]

-- the table behind that
abbrev pub rested : FrameTable → FrameTable
rested s = record s { current = current_of s s.current }

-- frame f gives the thread that became ready last, and is current then
abbrev pub given_of : FrameTable → ℕ → List ℕ → Option (ℕ × ℕ) × FrameTable
given_of s f [] = (None, s)
given_of s f (t ∷ ts) = (Some (f, t), record (changed s f (λ h. record h { ready = ts })) { current = Some f })

-- the current frame gives it, or the front of the queue
abbrev pub next_of : FrameTable → Option ℕ → List ℕ → Option (ℕ × ℕ) × FrameTable
next_of s (Some f) queue = given_of s f (frame_at s f).ready
next_of s None [] = (None, s)
next_of s None (f ∷ queue) = given_of (record s { queue = queue }) f (frame_at s f).ready

-- the next frame and thread, with the table behind
abbrev pub next_thread : FrameTable → Option (ℕ × ℕ) × FrameTable
next_thread s = next_of (rested s) (rested s).current s.queue

-- a frame is current, or one is queued
abbrev pub is_ready_of : Option ℕ → List ℕ → Bool
is_ready_of None [] = false
is_ready_of None (f ∷ queue) = true
is_ready_of (Some f) queue = true

-- some thread is ready
abbrev pub is_ready : FrameTable → Bool
is_ready s = is_ready_of (rested s).current s.queue
