-- Frames on linked cells: each frame lies in cells of its own, one behind the other.
-- The rule in words: docs/THREADS.md, "Frames".
use Rattle.std.specs.Prelude.{ℕ, ◌≡◌, ◌+◌, ◌-◌, ◌*◌, ◌<◌, ◌≤◌, ◌^◌, Bool, not, nat_eq, List, map, length, slice_index, count_by, max}
use Rattle.std.specs.List.{range_with_len, AllByRecursion}
use Rattle.linked_cells.specs.declared.line.Line.{Line}
use Rattle.linked_cells.specs.Cells.{LinkedCell, CellRow, cell_at}
use Rattle.linked_cells.specs.Lists.{behind, IsApart}
use Rattle.linked_cells.specs.Lines.{IsLine, numbers_of}
use Rattle.frame_tables.specs.FrameTables.{Frame}
use Rattle.tam_frames.specs.HeldFrames.{HeldFrames, is_left}

-- the cells, the lines of the frames that wait and of those that are free, how many have begun, for how many there is room, and how many slots and threads each
-- has
pub record CellFrames : Type 0 where
  pub table : CellRow
  pub queue : Line
  pub free : Line
  pub begun : ℕ
  pub room : ℕ
  pub slots : ℕ
  pub threads : ℕ

-- how many slots and threads each frame has
pub record FrameSize : Type 0 where
  pub slots : ℕ
  pub threads : ℕ

-- ---- where a frame lies

-- a frame has two headers, a cell for each thread and a cell for each slot
abbrev pub frame_width : ℕ → ℕ → ℕ
frame_width slots threads = 2 + threads + slots

-- its first cell, behind two that are roots of lists
abbrev pub start_of : ℕ → ℕ → ℕ → ℕ
start_of slots threads f = 2 + f * frame_width slots threads

-- its second header
abbrev pub second_header : ℕ → ℕ → ℕ → ℕ
second_header slots threads f = start_of slots threads f + 1

-- the cell of a thread of the frame from cell a on
abbrev pub thread_cell : ℕ → ℕ → ℕ
thread_cell a t = a + 2 + t

-- the cell of a slot
abbrev pub slot_cell : ℕ → ℕ → ℕ → ℕ
slot_cell threads a s = a + 2 + threads + s

-- ---- what cells hold

-- so many things, by their numbers
abbrev pub listed : {X : Type 0} → ℕ → (ℕ → X) → List X
listed n x = map x (range_with_len 0 n)

-- the frame from cell a on: the first header has what it owes and how many threads are ready, and leads to those, the latest first
abbrev pub frame_in : List LinkedCell → ℕ → ℕ → ℕ → Frame
frame_in cells slots threads a = record {
  slots = listed slots (λ s. (cell_at cells (slot_cell threads a s)).first);
  counts = listed threads (λ t. (cell_at cells (thread_cell a t)).first);
  owed = (cell_at cells a).first;
  ready = map (λ i. i - (a + 2)) (behind cells a (cell_at cells a).second);
}

-- a mark is set
abbrev pub is_set : ℕ → Bool
is_set n = not (nat_eq n 0)

-- the frames that have begun: the second header of each has whether it is live, and its number
abbrev pub held_frames : CellFrames → HeldFrames
held_frames k = record {
  frames = listed k.begun (λ f. frame_in k.table.cells k.slots k.threads (start_of k.slots k.threads f));
  lives = listed k.begun (λ f. is_set (cell_at k.table.cells (second_header k.slots k.threads f)).first);
  queue = numbers_of k.table.cells k.queue;
  free = numbers_of k.table.cells k.free;
  room = k.room;
  slots = k.slots;
  threads = k.threads;
}

-- ---- what holds of them

-- a thread is one of so many, and its entry count is used up
abbrev pub IsReady : List ℕ → ℕ → ℕ → Type 0
IsReady counts threads t = (t < threads) × (slice_index counts t ≡ 0)

-- the cells from a on hold a frame
pub record HoldsFrame (cells : List LinkedCell) (slots threads a : ℕ) (h : Frame) : Type 0 where
  pub slots_there : length h.slots ≡ slots
  pub threads_there : length h.counts ≡ threads
  pub slot : (s : ℕ) → s < slots → (cell_at cells (slot_cell threads a s)).first ≡ slice_index h.slots s
  pub count : (t : ℕ) → t < threads → (cell_at cells (thread_cell a t)).first ≡ slice_index h.counts t
  pub number : (t : ℕ) → t < threads → (cell_at cells (thread_cell a t)).second ≡ t
  pub owed : (cell_at cells a).first ≡ h.owed
  pub ready_count : (cell_at cells a).second ≡ length h.ready
  pub linked : behind cells a (length h.ready) ≡ map (thread_cell a) h.ready
  pub ready : AllByRecursion (IsReady h.counts threads) h.ready
  pub fit : length h.ready + count_by is_left h.counts ≤ threads

-- where frames have so many slots and threads and so many have begun
pub record Shape : Type 0 where
  pub slots : ℕ
  pub threads : ℕ
  pub begun : ℕ

-- a line has these frames: it leads from its root through their second headers
pub record HoldsLine (cells : List LinkedCell) (shape : Shape) (line : Line) (root : ℕ) (numbers : List ℕ) : Type 0 where
  pub root_is : line.root ≡ root
  pub is : IsLine cells line (map (second_header shape.slots shape.threads) numbers)
  pub begun : AllByRecursion (λ f. f < shape.begun) numbers

-- both lines have their frames, none is in both, and the second header of each frame has its number
pub record HoldLines (cells : List LinkedCell) (shape : Shape) (queue free : Line) (waiting idle : List ℕ) : Type 0 where
  pub queue_held : HoldsLine cells shape queue 0 waiting
  pub free_held : HoldsLine cells shape free 1 idle
  pub apart : AllByRecursion (λ f. IsApart f idle) waiting
  pub numbered : (f : ℕ) → f < shape.begun → (cell_at cells (second_header shape.slots shape.threads f)).second ≡ f

-- the shape of frames
abbrev pub shape_of : CellFrames → Shape
shape_of k = record { slots = k.slots; threads = k.threads; begun = k.begun }

-- the cells are those of the frames that have begun, each holds its frame, the lines go through them, and there is room for all
pub record AreHeld (k : CellFrames) : Type 0 where
  pub there : length k.table.cells ≡ start_of k.slots k.threads k.begun
  pub room_there : k.table.room ≡ start_of k.slots k.threads k.room
  pub few : k.begun ≤ k.room
  pub small : start_of k.slots k.threads k.room < 2 ^ 64
  pub narrow : k.threads < 2 ^ 32
  pub countable : k.room < 2 ^ 32
  pub each : (f : ℕ) → f < k.begun
      → HoldsFrame k.table.cells k.slots k.threads (start_of k.slots k.threads f) (frame_in k.table.cells k.slots k.threads (start_of k.slots k.threads f))
  pub lines : HoldLines k.table.cells (shape_of k) k.queue k.free (numbers_of k.table.cells k.queue) (numbers_of k.table.cells k.free)

-- ---- cells that are put one behind the other

-- the cells from a on are put, so many, with those first words and 0 behind them, and with their numbers from 0 on
pub record ArePut (old new : List LinkedCell) (a : ℕ) (words : List ℕ) (count : ℕ) : Type 0 where
  pub length_is : length new ≡ max (length old) (a + count)
  pub first : (i : ℕ) → i < count → (cell_at new (a + i)).first ≡ slice_index words i
  pub second : (i : ℕ) → i < count → (cell_at new (a + i)).second ≡ i
  pub before : (j : ℕ) → j < a → cell_at new j ≡ cell_at old j
  pub after : (j : ℕ) → a + count ≤ j → cell_at new j ≡ cell_at old j
