-- What one event of a run of threads answers, and what contracts see of a run.
-- The rule in words: docs/THREADS.md, "Runs of threads".
use Rattle.std.specs.Prelude.{ℕ, List, [], ◌∷◌, ◌++◌, ◌≡◌, false, replicate, length, Option, Some, None, Result, Ok, Err}
use Rattle.tam_msgs.specs.declared.item.Item.{Item}
use Rattle.tam_msgs.specs.declared.limits.Limits.{Limits}
use Rattle.tam_msgs.specs.declared.step.Step.{Step}
use Rattle.tam_msgs.specs.declared.step.Step.TheVariants.{Ran, Delivered, Printed, Quiet as Step_quiet}
use Rattle.tam_msgs.specs.declared.stop.Stop.TheVariants.{DoubleWrite, OutOfRange, FramesFull, CellsFull, BudgetSpent, NoMemory}
use Rattle.tam_msgs.specs.declared.choice.Choice.{Choice}
use Rattle.tam_msgs.specs.declared.choice.Choice.TheVariants.{Quiet as Choose_quiet, Run as Choose_run, Deliver as Choose_delivery}
use Rattle.tam_msgs.specs.Runs.{choice, Quiet, Double_write, Out_of_range, Frames_full, Cells_full, Budget_spent, Wild, WildCause, Outcome, Next, Ended}
use Rattle.tam_istr.specs.Cells.{Arrays}
use Rattle.frame_tables.specs.FrameTables.{FrameTable, is_ready, next_number, taken, with_slot}
use Rattle.tam_frames.specs.StoredFrames.{StoredFrames}
use Rattle.tl0_code.specs.ThreadCode.{Program, code_text}
use Rattle.tl0_code.specs.Machines.{Machine}
use Rattle.tl0_code.specs.ThreadRuns.{thread_step, thread_opening, counted}
use Rattle.tl0_machine.specs.declared.stop0.Stop0.{Stop0}
use Rattle.tl0_machine.specs.declared.stop0.Stop0.TheVariants.{Stop as Stops, Wild as Goes_wild}
use Rattle.tl0_machine.specs.declared.thread_state.ThreadState.{ThreadState}
use Rattle.tl0_machine.specs.ThreadStates.{SeenState, machine_with, state_of, machine_of, AreMarked, cause_of}

-- what the end of a run tells: what was printed, the events, the activations and the cells; and what is left of the order list
abbrev pub told_of : Machine → List (ℕ × ℕ) × ℕ × ℕ × Arrays × List Item
told_of m = (m.printed, m.events, m.begun, m.arrays, m.order)

-- the run is wild, by this cause, and tells what this state tells
abbrev pub IsWild : Outcome Machine → WildCause → ℕ → Machine → Type 0
IsWild (Next m) what n new = ⊥
IsWild (Ended how m) what n new = (how ≡ Wild what n) × (told_of m ≡ told_of new)

-- memory is wanted only where the run would go on or be wild
abbrev pub MayWant : Outcome Machine → Type 0
MayWant (Next m) = Unit {0}
MayWant (Ended (Wild what n) m) = Unit {0}
MayWant (Ended how m) = ⊥

-- the answer is what comes of an event: the state and what was printed, or how the run ended. A wild run tells the same as the state that is left, where
-- frames and messages may differ
abbrev pub IsOutcome : Outcome Machine → SeenState → List Item → List (ℕ × ℕ) → Result Step Stop0 → Type 0
IsOutcome outcome s order printed (Ok Ran) = outcome ≡ Next (machine_with s order printed)
IsOutcome outcome s order printed (Ok Delivered) = outcome ≡ Next (machine_with s order printed)
IsOutcome outcome s order printed (Ok (Printed k w)) = outcome ≡ Next (machine_with s order (printed ++ (k, w) ∷ []))
IsOutcome outcome s order printed (Ok Step_quiet) = outcome ≡ Ended Quiet (machine_with s order printed)
IsOutcome outcome s order printed (Err (Stops (DoubleWrite first second))) = outcome ≡ Ended (Double_write first second) (machine_with s order printed)
IsOutcome outcome s order printed (Err (Stops (OutOfRange site i n))) = outcome ≡ Ended (Out_of_range site i n) (machine_with s order printed)
IsOutcome outcome s order printed (Err (Stops (FramesFull n))) = outcome ≡ Ended (Frames_full n) (machine_with s order printed)
IsOutcome outcome s order printed (Err (Stops (CellsFull used n))) = outcome ≡ Ended (Cells_full used n) (machine_with s order printed)
IsOutcome outcome s order printed (Err (Stops (BudgetSpent n))) = outcome ≡ Ended (Budget_spent n) (machine_with s order printed)
IsOutcome outcome s order printed (Err (Stops NoMemory)) = MayWant outcome
IsOutcome outcome s order printed (Err (Goes_wild what n)) = IsWild outcome (cause_of what) n (machine_with s order printed)

-- what was printed behind an answer
abbrev pub printed_behind : List (ℕ × ℕ) → Result Step Stop0 → List (ℕ × ℕ)
printed_behind printed (Ok Ran) = printed
printed_behind printed (Ok Delivered) = printed
printed_behind printed (Ok (Printed k w)) = printed ++ (k, w) ∷ []
printed_behind printed (Ok Step_quiet) = printed
printed_behind printed (Err stop) = printed

-- the answer is that of a thread that ran
abbrev pub IsRun : Result Step Stop0 → Type 0
IsRun (Ok Ran) = Unit {0}
IsRun (Ok Delivered) = ⊥
IsRun (Ok (Printed k w)) = ⊥
IsRun (Ok Step_quiet) = ⊥
IsRun (Err stop) = Unit {0}

-- the answer is that of a delivery
abbrev pub IsDelivery : Result Step Stop0 → Type 0
IsDelivery (Ok Ran) = ⊥
IsDelivery (Ok Delivered) = Unit {0}
IsDelivery (Ok (Printed k w)) = Unit {0}
IsDelivery (Ok Step_quiet) = ⊥
IsDelivery (Err stop) = Unit {0}

-- the answer is that of what was chosen
abbrev pub IsAnswerOf : Choice → Result Step Stop0 → Type 0
IsAnswerOf Choose_run result = IsRun result
IsAnswerOf (Choose_delivery k) result = IsDelivery result
IsAnswerOf Choose_quiet result = result ≡ Ok Step_quiet

-- what comes next
abbrev pub next_choice : SeenState → List Item → Choice
next_choice s order = (choice order (is_ready s.table) (length s.pending)).0

-- where the run is quiet, nothing changed
abbrev pub LeavesAtQuiet : SeenState → SeenState → List Item → List Item → Result Step Stop0 → Type 0
LeavesAtQuiet old new order order' (Ok Step_quiet) = (new ≡ old) × (order' ≡ order)
LeavesAtQuiet old new order order' (Ok Ran) = Unit {0}
LeavesAtQuiet old new order order' (Ok Delivered) = Unit {0}
LeavesAtQuiet old new order order' (Ok (Printed k w)) = Unit {0}
LeavesAtQuiet old new order order' (Err stop) = Unit {0}

-- what contracts see of a run: its program and limits, its state, and the stop that was answered, if one was
pub record ThreadRun : Type 0 where
  pub program : Program
  pub limits : Limits
  pub state : SeenState
  pub stopped : Option Stop0

-- the stop that an answer names
abbrev pub stop_of : Result Step Stop0 → Option Stop0
stop_of (Ok step) = None
stop_of (Err stop) = Some stop

-- the answer is that of one step, and what was printed is marked
pub record IsStep (p : Program) (limits : Limits) (old new : SeenState) (order order' : List Item) (printed : List (ℕ × ℕ))
    (result : Result Step Stop0) : Type 0 where
  pub outcome : IsOutcome (thread_step p limits (machine_with old order printed)) new order' printed result
  pub marks : AreMarked new.marks (printed_behind printed result)

-- what one call answers: one event, or where the run was stopped before, the same stop once more
abbrev pub IsEvent : ThreadRun → ThreadRun → List Item → List Item → Result Step Stop0 → Option Stop0 → Type 0
IsEvent old new order order' result (Some stop) = (result ≡ Err stop) × (new ≡ old) × (order' ≡ order)
IsEvent old new order order' result None =
    ((printed : List (ℕ × ℕ)) → AreMarked old.state.marks printed → IsStep old.program old.limits old.state new.state order order' printed result)
    × (new.stopped ≡ stop_of result) × LeavesAtQuiet old.state new.state order order' result × IsAnswerOf (next_choice old.state order) result

-- the state before the first event: frame 0 of `main` is taken, and the arguments are pending
abbrev pub opening_state : Program → List ℕ → SeenState
opening_state p args = seen (thread_opening p args [])
  where
    seen : Machine → SeenState
    seen m = record {
      table = m.table;
      codes = m.codes;
      begun = m.begun;
      pending = m.pending;
      arrays = m.arrays;
      marks = replicate (code_text p p.main).results false;
      events = m.events;
    }

-- what the code keeps does one thing of the definition
abbrev pub Steps : (Machine → Outcome Machine) → ThreadState → ThreadState → Result Step Stop0 → Type 0
Steps step old new result =
    (order : List Item) (printed : List (ℕ × ℕ)) → AreMarked old.printed.items printed
    → IsOutcome (step (machine_of old order printed)) (state_of new) order printed result

-- the same, counted as an event behind which the order goes on
abbrev pub Counted : (Machine → Outcome Machine) → ThreadState → ThreadState → Result Step Stop0 → Type 0
Counted step old new result =
    (order before : List Item) (printed : List (ℕ × ℕ)) → AreMarked old.printed.items printed
    → IsOutcome (step (counted (machine_of old before printed) order)) (state_of new) order printed result

-- the answer is what comes of one step
abbrev pub Advances : Program → Limits → ThreadState → ThreadState → List Item → List Item → Result Step Stop0 → Type 0
Advances p limits old new order order' result =
    (printed : List (ℕ × ℕ)) → AreMarked old.printed.items printed
    → IsOutcome (thread_step p limits (machine_of old order printed)) (state_of new) order' printed result

-- what was printed is marked behind it, where it was before
abbrev pub Marks : ThreadState → ThreadState → Result Step Stop0 → Type 0
Marks old new result = (printed : List (ℕ × ℕ)) → AreMarked old.printed.items printed → AreMarked new.printed.items (printed_behind printed result)

-- the table with a new frame, by the room of frames
abbrev pub with_frame_in : StoredFrames → List ℕ → ℕ → ℕ → FrameTable
with_frame_in s counts first second =
    let f = next_number s.table in with_slot (with_slot (taken s.table s.slots s.threads counts) f 0 first) f 1 second
