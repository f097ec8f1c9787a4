-- How the relation between the two runs is carried from poll to poll: each part of the kernel and each expansion does to the machine what the step of
-- thread code does to its state, within so many instructions.
-- The rules in words: docs/ARCHITECTURE.md, "Machine code".
use Rattle.std.specs.Prelude.{ℕ, ◌+◌, ◌*◌, ◌%◌, ◌^◌, not, ◌==◌, ◌≡◌, ◌<◌, ◌≤◌, List, [], Some, slice_get, length}
use Rattle.tam_msgs.specs.declared.limits.Limits.{Limits}
use Rattle.tam_msgs.specs.declared.item.Item.{Item}
use Rattle.tl0_code.specs.declared.inlet.Inlet.{Inlet}
use Rattle.tl0_code.specs.declared.instr.Instr.{Instr}
use Rattle.frame_tables.specs.FrameTables.{FrameTable, next_thread, rested, is_ready, live_count, next_number_of}
use Rattle.tl0_code.specs.declared.instr.Instr.TheVariants.{Imm, Mov}
use Rattle.tl0_code.specs.CodeRules.{faults_of_instr}
use Rattle.tl0_code.specs.ThreadCode.{CodeText, Program, code_text}
use Rattle.tl0_code.specs.Machines.{Machine, Giving, Fine, code_at, put, slot, spend, done, stopped}
use Rattle.tl0_code.specs.ThreadRuns.{thread_opening, text_at, begin_for}
use Rattle.rv_inst.specs.Harts.{reg}
use Rattle.rv_inst.specs.Steps.{Stands}
use Rattle.rv_keep.specs.KernelPlaces.{poll_at, post_at}
use Rattle.rv_keep.specs.Expansions.{expanded, stop}
use Rattle.rv_keep.specs.Image.{image_of, image_words, words_in_all, start_of}
use Rattle.rv_keep.specs.Hosts.{Host, At_poll, to_poll}
use Rattle.rv_keep.specs.HostRuns.{host_opening, with_frame}
use Rattle.rv_keep.specs.MachineLaws.{MayRun}
use Rattle.rv_keep.specs.Relation.{Related, frame_address, cell_address}

-- the machine with its host goes on from one state to another in at most n instructions, without a poll
pub record Onward (n : ℕ) (s t : Host) : Type 0 where
  pub took : ℕ
  pub few : took ≤ n
  pub counted : t.hart.steps ≡ s.hart.steps + took
  pub goes : (k : ℕ) → to_poll (took + k) s ≡ to_poll k t

-- the two are related, and the machine is at an address
pub record RelatedAt (pc : ℕ) (p : Program) (limits : Limits) (m : Machine) (s : Host) : Type 0 where
  pub related : Related p limits m s
  pub at : s.hart.pc ≡ pc

-- it comes within n instructions to an address, related to a state
pub record ComesTo (n pc : ℕ) (p : Program) (limits : Limits) (s : Host) (m : Machine) : Type 0 where
  pub host : Host
  pub onward : Onward n s host
  pub there : RelatedAt pc p limits m host

-- at a poll the registers and the memory are the state's, and register 10 tells whether something is ready
pub record PollsAt (p : Program) (limits : Limits) (m : Machine) (s t : Host) : Type 0 where
  pub reached : (k : ℕ) → to_poll (3 + k) s ≡ At_poll t
  pub there : RelatedAt 80 p limits m t
  pub tells : not (reg t.hart 10 == 0) ≡ is_ready m.table
  pub counted : t.hart.steps ≡ s.hart.steps + 3

-- ---- what holds of each program that may run, at each state of its run

-- the image has as many words as its parts
abbrev pub ImagesAreLong : Type 0
ImagesAreLong = (p : Program) → length (image_words p) ≡ words_in_all p

-- the start comes to the kernel's poll
abbrev pub Starts : Type 0
Starts = (p : Program) (args : List ℕ) (order : List Item) (limits : Limits) → MayRun p args limits
    → ComesTo (47 + 6 * length (code_text p p.main).threads + 4 * (code_text p p.main).slots) poll_at p limits (host_opening (image_of p) args order limits)
    (thread_opening p args order)

-- the kernel polls
abbrev pub Polls : Type 0
Polls = (p : Program) (args : List ℕ) (limits : Limits) (m : Machine) (s : Host) → MayRun p args limits → rested m.table ≡ m.table
    → RelatedAt poll_at p limits m s → (t : Host) × PollsAt p limits m s t

-- a poll that gives 0 comes back
abbrev pub HostsAlone : Type 0
HostsAlone = (p : Program) (args : List ℕ) (limits : Limits) (m : Machine) (s : Host) → MayRun p args limits → RelatedAt 80 p limits m s → reg s.hart 10 ≡ 0
    → ComesTo 1 poll_at p limits s m

-- the thread that is to be run is entered; a frame without a ready thread isn't current at a poll
abbrev pub Enters : Type 0
Enters = (p : Program) (args : List ℕ) (limits : Limits) (m : Machine) (s : Host) (f t : ℕ) (table : FrameTable) → MayRun p args limits
    → rested m.table ≡ m.table → RelatedAt 80 p limits m s → reg s.hart 10 ≡ 1 → next_thread m.table ≡ (Some (f, t), table)
    → ComesTo 13 (start_of p (code_at m f) t) p limits s (record m { table = table })

-- an instruction of a code without a fault, whose words are words
abbrev pub MayDo : Program → CodeText → Instr → Type 0
MayDo p c i = (faults_of_instr p c i ≡ []) × ((d w : ℕ) → i ≡ Imm d w → w < 2 ^ 32)

-- an instruction of a thread of the current frame, which stands in the image, where it isn't wild
abbrev pub Instructs : Type 0
Instructs = (p : Program) (args : List ℕ) (limits : Limits) (m n : Machine) (s : Host) (f pc : ℕ) (i : Instr) → MayRun p args limits
    → RelatedAt pc p limits m s
    → m.table.current ≡ Some f → MayDo p (text_at p m f) i → pc % 4 ≡ 0
    → (let is = expanded (text_at p m f).slots (start_of p (code_at m f)) (code_at m f) i in
    Stands s.hart.memory pc is → pc + 4 * length is ≤ 4 * words_in_all p → done Giving m f i ≡ Fine n → ComesTo 28 (pc + 4 * length is) p limits s n)

-- of these, a number that goes into a slot
abbrev pub NumberInstructs : Type 0
NumberInstructs = (p : Program) (limits : Limits) (m : Machine) (s : Host) (f pc d w : ℕ) → RelatedAt pc p limits m s → m.table.current ≡ Some f
    → MayDo p (text_at p m f) (Imm d w)
    → Stands s.hart.memory pc (expanded (text_at p m f).slots (start_of p (code_at m f)) (code_at m f) (Imm d w))
    → ComesTo 28 (pc + 20) p limits s (put m f d w)

-- and a slot
abbrev pub SlotInstructs : Type 0
SlotInstructs = (p : Program) (limits : Limits) (m : Machine) (s : Host) (f pc d a : ℕ) → RelatedAt pc p limits m s → m.table.current ≡ Some f
    → MayDo p (text_at p m f) (Mov d a)
    → Stands s.hart.memory pc (expanded (text_at p m f).slots (start_of p (code_at m f)) (code_at m f) (Mov d a))
    → ComesTo 28 (pc + 24) p limits s (put m f d (slot m f a))

-- the stop of a thread of the current frame, up to the poll
abbrev pub Stops : Type 0
Stops = (p : Program) (args : List ℕ) (limits : Limits) (m n : Machine) (s : Host) (f pc : ℕ) → MayRun p args limits → RelatedAt pc p limits m s
    → m.table.current ≡ Some f → Stands s.hart.memory pc stop → stopped Giving m f ≡ Fine n → ComesTo 12 poll_at p limits s n

-- a word for a live frame, up to the poll
abbrev pub Words : Type 0
Words = (p : Program) (args : List ℕ) (limits : Limits) (m n : Machine) (s : Host) (f i w : ℕ) (inlet : Inlet) → MayRun p args limits
    → RelatedAt 80 p limits m s
    → reg s.hart 10 ≡ 2 → reg s.hart 11 ≡ f → reg s.hart 12 ≡ i → reg s.hart 13 ≡ w → w < 2 ^ 32
    → slice_get (text_at p m f).inlets i ≡ Some inlet → spend (put m f inlet.slot w) f inlet.thread ≡ Fine n
    → ComesTo 34 poll_at p limits s n

-- the routine that spends a count, for thread t of frame f, from where its registers are ready to where it goes back
abbrev pub SpendsOne : Type 0
SpendsOne = (p : Program) (args : List ℕ) (limits : Limits) (m n : Machine) (s : Host) (f t back : ℕ) → MayRun p args limits
    → RelatedAt post_at p limits m s
    → reg s.hart 10 ≡ frame_address p f → reg s.hart 11 ≡ cell_address p f (code_at m f) t → reg s.hart 12 ≡ start_of p (code_at m f) t → reg s.hart 1 ≡ back
    → t < length (text_at p m f).threads → back % 4 ≡ 0 → back < 2 ^ 32 → spend m f t ≡ Fine n → ComesTo 16 back p limits s n

-- a frame that is asked for, from where the host has given its number, up to the poll
abbrev pub Frames : Type 0
Frames = (p : Program) (args : List ℕ) (limits : Limits) (m n : Machine) (s : Host) (c f i : ℕ) → MayRun p args limits → RelatedAt 80 p limits m s
    → c < length p.codes → f < 2 ^ 32 → i < 2 ^ 32 → live_count m.table < limits.frames → begin_for p m c f i ≡ Fine n
    → ComesTo (38 + 6 * length (code_text p c).threads + 4 * (code_text p c).slots) poll_at p limits
    (with_frame s (next_number_of s.free (length s.live + length s.free)) c f i) n
