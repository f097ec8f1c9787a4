-- A frame and its bytes, and what expansions leave in the registers.
-- The rules in words: docs/MACHINE.md, "Machine code".
use Rattle.std.specs.Prelude.{ℕ, suc, ◌+◌, ◌*◌, ◌%◌, ◌^◌, true, ◌≡◌, ◌<◌, ◌≤◌, List, [], ◌∷◌, Some, length, slice_get, slice_index, slice_set}
use Rattle.tam_word.specs.Lists.{has}
use Rattle.tam_msgs.specs.declared.message.Message.{Message}
use Rattle.tl0_code.specs.declared.instr.Instr.{Instr}
use Rattle.frame_tables.specs.FrameTables.{Frame}
use Rattle.rv_inst.specs.Harts.{Hart, reg, read_at, written_at}
use Rattle.rv_inst.specs.Steps.{Comes, Calls, Stands}
use Rattle.rv_keep.specs.Expansions.{expanded}
use Rattle.rv_keep.specs.Hosts.{sent_by}
use Rattle.rv_keep.specs.FrameRecords.{number_at, owed_at, slot_at, cell_at}

-- the frame's number, what it owes, its slots and its entry counts stand in the memory from an address on; the cell of a thread that is ready links the list
pub record FrameStands (memory : List ℕ) (at number : ℕ) (f : Frame) : Type 0 where
  pub aligned : at % 4 ≡ 0
  pub inside : at + cell_at (length f.slots) (length f.counts) ≤ length memory
  pub small : length memory < 2 ^ 32
  pub numbered : read_at memory (at + number_at) 4 ≡ number
  pub owes : read_at memory (at + owed_at) 4 ≡ f.owed
  pub slots : (s : ℕ) → s < length f.slots → read_at memory (at + slot_at s) 4 ≡ slice_index f.slots s
  pub words : (s : ℕ) → slice_index f.slots s < 2 ^ 32
  pub counts : (t c : ℕ) → slice_get f.counts t ≡ Some (suc c) → read_at memory (at + cell_at (length f.slots) t) 4 ≡ suc c

-- the registers that threads leave alone: 0, the frame's address, the queue's ends, the addresses of frames, the stride and the code table
abbrev pub base_regs : List ℕ
base_regs = 0 ∷ 8 ∷ 9 ∷ 18 ∷ 19 ∷ 20 ∷ 21 ∷ []

-- they are left alone
pub record BaseKept (was now : List ℕ) : Type 0 where
  pub as_many : length now ≡ length was
  pub same : (r : ℕ) → has base_regs r ≡ true → slice_index now r ≡ slice_index was r

-- the state n instructions further on, with these registers and this memory
abbrev pub further : Hart → ℕ → List ℕ → List ℕ → Hart
further h n regs memory = record { regs = regs; pc = h.pc + 4 * n; memory = memory; steps = h.steps + n }

-- in n steps the machine comes to the next instruction but n, with this memory
pub record Leaves (n : ℕ) (h : Hart) (memory : List ℕ) : Type 0 where
  pub regs : List ℕ
  pub comes : Comes n h (further h n regs memory)
  pub kept : BaseKept h.regs regs

-- in n steps and a call of the host the machine sends a message and comes to the instruction behind the call
pub record Sends (n : ℕ) (h : Hart) (m : Message) : Type 0 where
  pub regs : List ℕ
  pub calls : Calls n h (further h (n + 1) regs h.memory)
  pub kept : BaseKept h.regs regs
  pub call : ℕ
  pub called : slice_index regs 17 ≡ suc call
  pub sent : sent_by (suc call) (further h (n + 1) regs h.memory) ≡ m ∷ []

-- ---- expansions

-- the machine is at the expansion of an instruction of a frame's thread, and in register 8 is the address of the frame's bytes
pub record Begins (h : Hart) (start : ℕ → ℕ) (c number : ℕ) (f : Frame) (i : Instr) : Type 0 where
  pub stands : Stands h.memory h.pc (expanded (length f.slots) start c i)
  pub frame : FrameStands h.memory (reg h 8) number f
  pub zero_stays : reg h 0 ≡ 0
  pub registers : length h.regs ≡ 32

-- slot s of a frame has the word
abbrev pub slot_is : Frame → ℕ → ℕ → Frame
slot_is f s w = record f { slots = slice_set f.slots s w }

-- the frame owes so many threads
abbrev pub owed_is : Frame → ℕ → Frame
owed_is f n = record f { owed = n }

-- in n steps the frame, which stands where register 8 says, owes n threads
pub record Owes (n : ℕ) (h : Hart) (number : ℕ) (f : Frame) (w : ℕ) : Type 0 where
  pub leaves : Leaves n h (written_at h.memory (reg h 8 + owed_at) 4 w)
  pub frame : FrameStands (written_at h.memory (reg h 8 + owed_at) 4 w) (reg h 8) number (owed_is f w)

-- in n steps slot s of the frame, which stands where register 8 says, gets the word
pub record Puts (n : ℕ) (h : Hart) (number : ℕ) (f : Frame) (s w : ℕ) : Type 0 where
  pub leaves : Leaves n h (written_at h.memory (reg h 8 + slot_at s) 4 w)
  pub frame : FrameStands (written_at h.memory (reg h 8 + slot_at s) 4 w) (reg h 8) number (slot_is f s w)
