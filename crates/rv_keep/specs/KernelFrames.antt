-- What the kernel does where a word is delivered and where a frame is begun: steps, registers, and the memory that is left.
-- The rules in words: docs/MACHINE.md, "Machine code".
use Rattle.std.specs.Prelude.{ℕ, zero, suc, ◌+◌, ◌-◌, ◌*◌, ◌%◌, ◌^◌, ◌≡◌, ◌<◌, ◌≤◌, List, [], ◌∷◌, length, ⊤}
use Rattle.rv_inst.specs.Harts.{Hart, reg, read_at, written_at}
use Rattle.rv_keep.specs.FrameRecords.{head_at, number_at, table_at, owed_at, slots_at}
use Rattle.rv_keep.specs.KernelPlaces.{poll_at, begin_at, deliver_at, post_at, kernel_end}
use Rattle.rv_inst.specs.Steps.{Stands}
use Rattle.rv_keep.specs.Kernel.{opening}
use Rattle.rv_keep.specs.KernelSteps.{AtKernel, Goes, FrameIn}

-- a word that is only read
pub record WordIs (memory : List ℕ) (a w : ℕ) : Type 0 where
  pub aligned : a % 4 ≡ 0
  pub inside : a + 4 ≤ length memory
  pub is : read_at memory a 4 ≡ w

-- a place for a word behind the kernel
pub record PlaceIn (memory : List ℕ) (a : ℕ) : Type 0 where
  pub aligned : a % 4 ≡ 0
  pub behind : kernel_end ≤ a
  pub inside : a + 4 ≤ length memory

-- ---- a word

-- the words of an inlet: where its slot and its thread's cell stand in a frame, and the thread's code
pub record InletIs (memory : List ℕ) (row slot cell start : ℕ) : Type 0 where
  pub slot_word : WordIs memory row slot
  pub cell_word : WordIs memory (row + 4) cell
  pub start_word : WordIs memory (row + 8) start

-- the registers where a word is to be delivered: frame, inlet, word; the frame stands at its number times the stride behind the first, and has an
-- inlet table
pub record Delivery (h : Hart) (frame inlet word row slot cell start : ℕ) : Type 0 where
  pub frame_is : reg h 11 * reg h 20 + reg h 19 ≡ frame
  pub inlet_is : reg h 12 ≡ inlet
  pub word_is : reg h 13 ≡ word
  pub frame_in : FrameIn h.memory frame
  pub row_is : read_at h.memory (frame + table_at) 4 + 16 * inlet ≡ row
  pub row_has : InletIs h.memory row slot cell start
  pub row_before : row + 12 ≤ frame
  pub slot_in : PlaceIn h.memory (frame + slot)
  pub cell_small : frame + cell < 2 ^ 32

-- the word is in its slot, and the kernel comes to post the inlet's thread, in 12
abbrev pub DeliversWord : Type 0
DeliversWord = (h : Hart) (frame inlet word row slot cell start : ℕ) → AtKernel h deliver_at → Delivery h frame inlet word row slot cell start
    → Goes 12 h post_at (1 ∷ 5 ∷ 6 ∷ 10 ∷ 11 ∷ 12 ∷ []) ((1, 244) ∷ (10, frame) ∷ (11, frame + cell) ∷ (12, start) ∷ [])
    (written_at h.memory (frame + slot) 4 word)

-- behind the post the kernel polls
abbrev pub PostedPolls : Type 0
PostedPolls = (h : Hart) → AtKernel h 244 → Goes 1 h poll_at [] [] h.memory

-- ---- a frame

-- the memory with so many words 0 from an address on
abbrev pub cleared : List ℕ → ℕ → ℕ → List ℕ
cleared m a zero = m
cleared m a (suc k) = cleared (written_at m a 4 0) (a + 4) k

-- the memory with numbers in every other word from an address on
abbrev pub filled : List ℕ → ℕ → List ℕ → List ℕ
filled m a [] = m
filled m a (c ∷ cs) = filled (written_at m a 4 c) (a + 8) cs

-- these numbers stand as words from an address on
abbrev pub NumbersStand : List ℕ → ℕ → List ℕ → Type 0
NumbersStand m a [] = ⊤
NumbersStand m a (c ∷ cs) = (read_at m a 4 ≡ c) × NumbersStand m (a + 4) cs

-- a code's record: the address of its inlet table, where thread 0's cell stands in a frame, how many threads it has, thread 0's code, and the
-- entry counts
pub record RecordIs (memory : List ℕ) (at table cell start : ℕ) (counts : List ℕ) : Type 0 where
  pub aligned : at % 4 ≡ 0
  pub inside : at + 16 + 4 * length counts ≤ length memory
  pub table_is : read_at memory at 4 ≡ table
  pub cell_is : read_at memory (at + 4) 4 ≡ cell
  pub threads_are : read_at memory (at + 8) 4 ≡ length counts
  pub start_is : read_at memory (at + 12) 4 ≡ start
  pub counts_are : NumbersStand memory (at + 16) counts
  pub some_thread : 0 < length counts

-- the memory with the head of the frame: no thread is ready; its number, its inlet table, and its first two slots
abbrev pub headed : List ℕ → ℕ → ℕ → ℕ → ℕ → ℕ → List ℕ
headed m frame number table s0 s1 =
    written_at
    (written_at (written_at (written_at (written_at m (frame + head_at) 4 0) (frame + number_at) 4 number) (frame + table_at) 4 table) (frame + slots_at) 4 s0)
    (frame + (slots_at + 4)) 4 s1

-- and with what it owes, its other slots 0, and its entry counts
abbrev pub begun : List ℕ → ℕ → ℕ → ℕ → ℕ → ℕ → ℕ → List ℕ → List ℕ
begun m frame number table s0 s1 slots counts =
    filled (cleared (written_at (headed m frame number table s0 s1) (frame + owed_at) 4 (length counts)) (frame + (slots_at + 8)) slots)
    (frame + (slots_at + 8 + 4 * slots)) counts

-- the registers where a frame is to be begun: number, code, and the first two slots; `slots` is how many slots the code has behind these
pub record Beginning (h : Hart) (frame record_at table start slots : ℕ) (counts : List ℕ) : Type 0 where
  pub frame_is : reg h 11 * reg h 20 + reg h 19 ≡ frame
  pub code_small : reg h 12 < 2 ^ 29
  pub code_word : WordIs h.memory (4 * reg h 12 + reg h 21) record_at
  pub frame_in : FrameIn h.memory frame
  pub record_is : RecordIs h.memory record_at table (slots_at + 8 + 4 * slots) start counts
  pub record_before : record_at + 16 + 4 * length counts ≤ frame
  pub room : frame + (slots_at + 8 + 4 * slots) + 8 * length counts ≤ length h.memory

-- the frame's bytes are there, and the kernel comes to post thread 0
abbrev pub BeginsFrame : Type 0
BeginsFrame = (h : Hart) (frame record_at table start slots : ℕ) (counts : List ℕ) → AtKernel h begin_at
    → Beginning h frame record_at table start slots counts
    → Goes (24 + 4 * slots + 6 * length counts) h post_at (1 ∷ 5 ∷ 6 ∷ 7 ∷ 10 ∷ 11 ∷ 12 ∷ 28 ∷ [])
    ((1, 244) ∷ (10, frame) ∷ (11, frame + (slots_at + 8 + 4 * slots)) ∷ (12, start) ∷ [])
    (begun h.memory frame (reg h 11) table (reg h 13) (reg h 14) slots counts)

-- ---- the start

-- the kernel's registers are set, and it comes to begin frame 0 of `main` for the outside, in 14
abbrev pub OpensKernel : Type 0
OpensKernel = (h : Hart) (frames stride table main : ℕ) → AtKernel h 0 → Stands h.memory 0 (opening frames stride table main) → frames < 2 ^ 32
    → stride < 2 ^ 32
    → table < 2 ^ 32
    → main < 2 ^ 32
    → Goes 14 h begin_at (8 ∷ 9 ∷ 11 ∷ 12 ∷ 13 ∷ 14 ∷ 18 ∷ 19 ∷ 20 ∷ 21 ∷ [])
    ((14, 0) ∷ (13, 2 ^ 32 - 1) ∷ (12, main) ∷ (11, 0) ∷ (18, 0) ∷ (9, 0) ∷ (8, 0) ∷ (21, table) ∷ (20, stride) ∷ (19, frames) ∷ []) h.memory
