-- What contracts see of the state that a run of threads keeps.
use Rattle.std.specs.Prelude.{ℕ, ◌≡◌, ◌==◌, ◌+◌, ◌<◌, ◌≤◌, Bool, true, List, map, length, Some, slice_get, slice_index, vec_capacity, Result, Ok, Err}
use Rattle.std.specs.declared.vec.Vec.{Vec}
use Rattle.std.specs.declared.alloc.Global.{Global}
use Rattle.tam_word.specs.Lists.{any_of}
use Rattle.tam_msgs.specs.declared.item.Item.{Item}
use Rattle.tam_msgs.specs.declared.limits.Limits.{Limits}
use Rattle.tam_msgs.specs.declared.message.Message.{Message}
use Rattle.tam_msgs.specs.declared.message.Message.TheVariants.{Frame as Begin}
use Rattle.tam_msgs.specs.declared.stop.Stop.TheVariants.{DoubleWrite, OutOfRange, FramesFull, CellsFull, BudgetSpent, NoMemory}
use Rattle.tam_msgs.specs.PendingMessages.{PendingMessages}
use Rattle.tam_msgs.specs.Runs.{WildCause, Wild_frame, Wild_inlet, Wild_thread, Wild_array, Wild_place, Wild_skip}
use Rattle.tam_istr.specs.Cells.{Arrays, cells_used}
use Rattle.frame_tables.specs.FrameTables.{FrameTable, is_live}
use Rattle.tam_frames.specs.StoredFrames.{StoredFrames}
use Rattle.tl0_code.specs.ThreadCode.{Program, code_text, widest_slots, widest_threads}
use Rattle.tl0_code.specs.Machines.{Machine, Progress, Fine, Broken}
use Rattle.tl0_machine.specs.declared.stop0.Wild.{Wild}
use Rattle.tl0_machine.specs.declared.stop0.Wild.TheVariants as wild
use Rattle.tl0_machine.specs.declared.stop0.Stop0.{Stop0}
use Rattle.tl0_machine.specs.declared.stop0.Stop0.TheVariants.{Stop as Stops, Wild as Goes_wild}
use Rattle.tl0_machine.specs.declared.thread_state.ThreadState.{ThreadState}

-- lists that the code keeps
abbrev pub lists_of : List (Vec ℕ Global) → List (List ℕ)
lists_of lists = map (λ l. l.items) lists

-- the state of a run, without the order list and what was printed, of which it is kept for each result of `main` whether it went outside
pub record SeenState : Type 0 where
  pub table : FrameTable
  pub codes : List ℕ
  pub begun : ℕ
  pub pending : List Message
  pub arrays : Arrays
  pub marks : List Bool
  pub events : ℕ

-- the state that the code keeps
abbrev pub state_of : ThreadState → SeenState
state_of s = record {
  table = s.frames.table;
  codes = s.codes.items;
  begun = s.begun;
  pending = s.pending.messages;
  arrays = s.cells;
  marks = s.printed.items;
  events = s.events;
}

-- with the order list and what was printed, which the caller keeps
abbrev pub machine_with : SeenState → List Item → List (ℕ × ℕ) → Machine
machine_with s order printed = record {
  table = s.table;
  codes = s.codes;
  begun = s.begun;
  pending = s.pending;
  arrays = s.arrays;
  order = order;
  printed = printed;
  events = s.events;
}

-- the same of the state that the code keeps
abbrev pub machine_of : ThreadState → List Item → List (ℕ × ℕ) → Machine
machine_of s order printed = machine_with (state_of s) order printed

-- result k was printed
abbrev pub is_printed : List (ℕ × ℕ) → ℕ → Bool
is_printed printed k = any_of (λ kw. kw.0 == k) printed

-- each result is marked that was printed, and no other
abbrev pub AreMarked : List Bool → List (ℕ × ℕ) → Type 0
AreMarked marks printed = (k : ℕ) (b : Bool) → slice_get marks k ≡ Some b → is_printed printed k ≡ b

-- ---- instructions

-- the cause that the code names
abbrev pub cause_of : Wild → WildCause
cause_of wild.Frame = Wild_frame
cause_of wild.Inlet = Wild_inlet
cause_of wild.Thread = Wild_thread
cause_of wild.Array = Wild_array
cause_of wild.Place = Wild_place
cause_of wild.Skip = Wild_skip

-- the answer is what comes of instructions, or memory is wanted
abbrev pub IsProgress : Progress → Machine → Result Unit Stop0 → Type 0
IsProgress progress m (Ok u) = progress ≡ Fine m
IsProgress progress m (Err (Goes_wild what n)) = progress ≡ Broken (cause_of what) n
IsProgress progress m (Err (Stops NoMemory)) = Unit {0}
IsProgress progress m (Err (Stops (DoubleWrite first second))) = ⊥
IsProgress progress m (Err (Stops (OutOfRange site i n))) = ⊥
IsProgress progress m (Err (Stops (FramesFull n))) = ⊥
IsProgress progress m (Err (Stops (CellsFull used n))) = ⊥
IsProgress progress m (Err (Stops (BudgetSpent n))) = ⊥

-- the same of what the code keeps, whatever is left of the order list and whatever was printed
abbrev pub Does : (Machine → Progress) → ThreadState → ThreadState → Result Unit Stop0 → Type 0
Does step old new result = (order : List Item) (printed : List (ℕ × ℕ)) → IsProgress (step (machine_of old order printed)) (machine_of new order printed) result

-- what a thread leaves as it was: the frames' room, what has begun, the cells, what was printed and the events
abbrev pub beside_of : ThreadState → (ℕ × ℕ × ℕ) × Vec ℕ Global × ℕ × Arrays × List Bool × ℕ
beside_of s = ((s.frames.count, s.frames.slots, s.frames.threads), s.codes, s.begun, s.cells, s.printed.items, s.events)

-- what has its size, and nothing more of it: the frames' room, their codes, what has begun, the cells, the marks and the events
abbrev pub sizes_of : ThreadState → (ℕ × ℕ × ℕ) × Vec ℕ Global × ℕ × (ℕ × ℕ) × ℕ × ℕ
sizes_of s = (
  (s.frames.count, s.frames.slots, s.frames.threads),
  s.codes,
  s.begun,
  (length s.cells, cells_used s.cells),
  length s.printed.items,
  s.events,
)

-- what the taking of a frame leaves as it was: the frames' room and that of their codes, what has begun, and the rest
abbrev pub beside_frames : ThreadState → (ℕ × ℕ × ℕ × ℕ) × ℕ × PendingMessages × Arrays × List Bool × ℕ
beside_frames s = (
  (s.frames.count, s.frames.slots, s.frames.threads, vec_capacity s.codes),
  s.begun,
  s.pending,
  s.cells,
  s.printed.items,
  s.events,
)

-- what the begin of an activation leaves as it was: the messages, what was printed and the events
abbrev pub beside_begin : ThreadState → PendingMessages × List Bool × ℕ
beside_begin s = (s.pending, s.printed.items, s.events)

-- the frames that were live are live
abbrev pub KeepsLive : ThreadState → ThreadState → Type 0
KeepsLive old new = (g : ℕ) → is_live old.frames.table g ≡ true → is_live new.frames.table g ≡ true

-- ---- what is kept

-- each frame, also one that isn't there, is of a code of the program
abbrev pub AreCodes : Program → List ℕ → Type 0
AreCodes p codes = (f : ℕ) → slice_index codes f < length p.codes

-- there is room for so many frames, each with room for each code
pub record HasRoom (p : Program) (count : ℕ) (s : StoredFrames) : Type 0 where
  pub frames : s.count ≡ count
  pub slots : s.slots ≡ widest_slots p
  pub threads : s.threads ≡ widest_threads p

-- frames have room for each code, each number of a frame has room for its code, each result of `main` has a mark, and all is within the limits
pub record IsKept (p : Program) (limits : Limits) (s : ThreadState) : Type 0 where
  pub frames : s.frames.count ≡ limits.frames
  pub slots : s.frames.slots ≡ widest_slots p
  pub threads : s.frames.threads ≡ widest_threads p
  pub codes : AreCodes p s.codes.items
  pub code_room : limits.frames ≤ vec_capacity s.codes
  pub arrays : length s.cells ≤ s.events
  pub cells : cells_used s.cells ≤ limits.cells
  pub events : s.events ≤ limits.budget
  pub marks : length s.printed.items ≡ (code_text p p.main).results

-- what is kept stays so
abbrev pub KeepsAll : Limits → ThreadState → ThreadState → Type 0
KeepsAll limits old new = (p : Program) → IsKept p limits old → IsKept p limits new

-- there are no more activations than events, but for the root before the first event, where no message wishes for one
pub record HasFewBegun (s : ThreadState) : Type 0 where
  pub begun : s.begun ≤ s.events + 1
  pub wished : (k c f i : ℕ) → slice_get s.pending.messages k ≡ Some (Begin c f i) → s.begun ≤ s.events
