-- What each part of the kernel does: from where it begins, in how many steps, to where, with which registers and which memory.
-- The rules in words: docs/MACHINE.md, "Machine code".
use Rattle.std.specs.Prelude.{ℕ, suc, ◌+◌, ◌-◌, ◌%◌, ◌^◌, false, ◌≡◌, ◌<◌, ◌≤◌, List, [], ◌∷◌, length, slice_index, ⊤}
use Rattle.tam_word.specs.Lists.{has}
use Rattle.tam_word.specs.declared.op.Op.TheVariants.{Or}
use Rattle.tam_word.specs.Words.{meaning}
use Rattle.rv_inst.specs.Harts.{Hart, reg, read_at, written_at}
use Rattle.rv_inst.specs.Steps.{Comes, Calls, Stands}
use Rattle.rv_keep.specs.FrameRecords.{link_at, head_at, number_at, owed_at, slots_at, next_at}
use Rattle.rv_keep.specs.KernelPlaces.{rest_at, poll_at, begin_at, fill_at, deliver_at, post_at, run_at, stop_at, clear_at, kernel_end}
use Rattle.rv_keep.specs.Kernel.{resting, polling, beginning, filling, delivering, post, running, stopping, clearing}
use Rattle.rv_keep.specs.Posting.{gone}

-- each part stands at its place
pub record KernelStands (memory : List ℕ) : Type 0 where
  pub rests : Stands memory rest_at resting
  pub polls : Stands memory poll_at polling
  pub begins : Stands memory begin_at beginning
  pub fills : Stands memory fill_at filling
  pub delivers : Stands memory deliver_at delivering
  pub posts : Stands memory post_at post
  pub runs : Stands memory run_at running
  pub stops : Stands memory stop_at stopping
  pub clears : Stands memory clear_at clearing

-- the machine is at an address of the kernel
pub record AtKernel (h : Hart) (pc : ℕ) : Type 0 where
  pub at : h.pc ≡ pc
  pub kernel : KernelStands h.memory
  pub registers : length h.regs ≡ 32
  pub zero_stays : reg h 0 ≡ 0
  pub small : length h.memory < 2 ^ 32

-- registers have these numbers
abbrev pub HasRegs : List ℕ → List (ℕ × ℕ) → Type 0
HasRegs regs [] = ⊤
HasRegs regs (s ∷ ss) = (slice_index regs s.0 ≡ s.1) × HasRegs regs ss

-- in n steps the machine comes to an address, with this memory; these registers have these numbers, and all but the registers xs what they had
pub record Goes (n : ℕ) (h : Hart) (pc : ℕ) (xs : List ℕ) (sets : List (ℕ × ℕ)) (memory : List ℕ) : Type 0 where
  pub regs : List ℕ
  pub comes : Comes n h (gone h n pc regs memory)
  pub many : length regs ≡ 32
  pub same : (r : ℕ) → has xs r ≡ false → slice_index regs r ≡ reg h r
  pub set : HasRegs regs sets

-- in n steps and a call of the host it comes so to an address behind the call
pub record GoesCalling (n : ℕ) (h : Hart) (pc : ℕ) (xs : List ℕ) (sets : List (ℕ × ℕ)) (memory : List ℕ) : Type 0 where
  pub regs : List ℕ
  pub calls : Calls n h (gone h (n + 1) pc regs memory)
  pub many : length regs ≡ 32
  pub same : (r : ℕ) → has xs r ≡ false → slice_index regs r ≡ reg h r
  pub set : HasRegs regs sets

-- a frame's bytes before its slots stand behind the kernel
pub record FrameIn (memory : List ℕ) (frame : ℕ) : Type 0 where
  pub aligned : frame % 4 ≡ 0
  pub behind : kernel_end ≤ frame
  pub inside : frame + slots_at ≤ length memory

-- a word stands behind the kernel
pub record WordIn (memory : List ℕ) (a w : ℕ) : Type 0 where
  pub aligned : a % 4 ≡ 0
  pub behind : kernel_end ≤ a
  pub inside : a + 4 ≤ length memory
  pub is : read_at memory a 4 ≡ w

-- ---- the poll and what it says

-- the kernel polls: register 10 has the bits of the current frame's address and of the front of the queue
abbrev pub PollCalls : Type 0
PollCalls = (h : Hart) → AtKernel h poll_at → GoesCalling 2 h 80 (10 ∷ 17 ∷ []) ((10, meaning Or (reg h 8) (reg h 9)) ∷ (17, 0) ∷ []) h.memory

-- nothing is left to do here: the kernel polls again
abbrev pub TurnsBack : Type 0
TurnsBack = (h : Hart) → AtKernel h 80 → reg h 10 ≡ 0 → Goes 1 h poll_at [] [] h.memory

-- a thread is to be run
abbrev pub TurnsToRun : Type 0
TurnsToRun = (h : Hart) → AtKernel h 80 → reg h 10 ≡ 1 → Goes 3 h run_at (5 ∷ []) [] h.memory

-- a word is to be delivered
abbrev pub TurnsToDeliver : Type 0
TurnsToDeliver = (h : Hart) → AtKernel h 80 → reg h 10 ≡ 2 → Goes 5 h deliver_at (5 ∷ []) [] h.memory

-- a frame is to be begun
abbrev pub TurnsToBegin : Type 0
TurnsToBegin = (h : Hart) → AtKernel h 80 → reg h 10 ≡ 3 → Goes 5 h begin_at (5 ∷ []) [] h.memory

-- ---- the end of a thread

-- the frame owes more: it is one less, in 4
abbrev pub StopOwes : Type 0
StopOwes = (h : Hart) (frame n : ℕ) → AtKernel h stop_at → reg h 8 ≡ frame → FrameIn h.memory frame → read_at h.memory (frame + owed_at) 4 ≡ suc (suc n)
    → suc n < 2 ^ 32 - 1 → Goes 4 h rest_at (5 ∷ []) [] (written_at h.memory (frame + owed_at) 4 (suc n))

-- it owes nothing more: its number is given to the host, in 6 and a call, and behind the call the kernel goes on
abbrev pub StopGives : Type 0
StopGives = (h : Hart) (frame number : ℕ) → AtKernel h stop_at → reg h 8 ≡ frame → FrameIn h.memory frame → read_at h.memory (frame + owed_at) 4 ≡ 1
    → read_at h.memory (frame + number_at) 4 ≡ number
    → GoesCalling 6 h 384 (5 ∷ 10 ∷ 17 ∷ []) ((10, number) ∷ (17, 6) ∷ []) (written_at h.memory (frame + owed_at) 4 0)

-- from behind the call in one step
abbrev pub GivenRests : Type 0
GivenRests = (h : Hart) → AtKernel h 384 → Goes 1 h rest_at [] [] h.memory

-- another thread of the frame is ready
abbrev pub RestsReady : Type 0
RestsReady = (h : Hart) (frame head : ℕ) → AtKernel h rest_at → reg h 8 ≡ frame → FrameIn h.memory frame
    → read_at h.memory (frame + head_at) 4 ≡ suc head → Goes 2 h poll_at (5 ∷ []) [] h.memory

-- none is: no frame is current
abbrev pub RestsNone : Type 0
RestsNone = (h : Hart) (frame : ℕ) → AtKernel h rest_at → reg h 8 ≡ frame → FrameIn h.memory frame → read_at h.memory (frame + head_at) 4 ≡ 0
    → Goes 3 h poll_at (5 ∷ 8 ∷ []) ((8, 0) ∷ []) h.memory

-- ---- a thread is run

-- the front cell of a frame's list goes out of the list: its link is the head
abbrev pub unlisted : List ℕ → ℕ → ℕ → List ℕ
unlisted memory frame next = written_at memory (frame + head_at) 4 next

-- a frame's front cell, its link, and the thread's code
pub record FrontIs (memory : List ℕ) (frame cell next start : ℕ) : Type 0 where
  pub frame_in : FrameIn memory frame
  pub head : read_at memory (frame + head_at) 4 ≡ cell
  pub start_word : WordIn memory cell start
  pub next_word : WordIn memory (cell + next_at) next
  pub apart : frame + slots_at ≤ cell
  pub start_aligned : start % 4 ≡ 0
  pub start_small : start < 2 ^ 32

-- of the current frame, in 6
abbrev pub RunsCurrent : Type 0
RunsCurrent = (h : Hart) (frame cell next start : ℕ) → AtKernel h run_at → reg h 8 ≡ frame → FrontIs h.memory frame cell next start
    → Goes 6 h start (5 ∷ 6 ∷ 11 ∷ []) [] (unlisted h.memory frame next)

-- of the front frame of the queue, in 9 where another is queued
abbrev pub RunsFront : Type 0
RunsFront = (h : Hart) (frame other cell next start : ℕ) → AtKernel h run_at → reg h 8 ≡ 0 → reg h 9 ≡ frame → FrontIs h.memory frame cell next start
    → read_at h.memory (frame + link_at) 4 ≡ suc other
    → Goes 9 h start (5 ∷ 6 ∷ 8 ∷ 9 ∷ 11 ∷ []) ((8, frame) ∷ (9, suc other) ∷ []) (unlisted h.memory frame next)

-- and in 10 where it was the only one
abbrev pub RunsLast : Type 0
RunsLast = (h : Hart) (frame cell next start : ℕ) → AtKernel h run_at → reg h 8 ≡ 0 → reg h 9 ≡ frame → FrontIs h.memory frame cell next start
    → read_at h.memory (frame + link_at) 4 ≡ 0
    → Goes 10 h start (5 ∷ 6 ∷ 8 ∷ 9 ∷ 11 ∷ 18 ∷ []) ((8, frame) ∷ (9, 0) ∷ (18, 0) ∷ []) (unlisted h.memory frame next)
