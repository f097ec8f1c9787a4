-- What one poll answers, and what contracts see of a host.
-- The rules in words: docs/MACHINE.md, "The host".
use Rattle.std.specs.Prelude.{ℕ, suc, ◌≡◌, ◌+◌, ◌<◌, Bool, true, false, List, [], ◌∷◌, ◌++◌, length, slice_get, Option, Some, None, Result, Ok, Err}
use Rattle.tam_msgs.specs.declared.item.Item.{Item}
use Rattle.tam_msgs.specs.declared.limits.Limits.{Limits}
use Rattle.tam_msgs.specs.declared.message.Message.{Message}
use Rattle.tam_msgs.specs.declared.step.Step.{Step as Made}
use Rattle.tam_msgs.specs.declared.step.Step.TheVariants.{Ran, Delivered, Printed, Quiet as Made_quiet}
use Rattle.tam_msgs.specs.declared.stop.Stop.TheVariants.{DoubleWrite, OutOfRange, FramesFull, CellsFull, BudgetSpent, NoMemory}
use Rattle.tam_msgs.specs.Runs.{WildCause, Wild_frame, Wild_array, Wild_place, Wild_ecall, Quiet, Double_write, Out_of_range, Frames_full, Cells_full}
use Rattle.tam_msgs.specs.Runs.{Budget_spent, Wild, Trap, Outcome, Next, Ended}
use Rattle.rv_inst.specs.Harts.{Hart, Called}
use Rattle.rv_inst.specs.Execution.{hart_step}
use Rattle.rv_inst.specs.Traps.{trap_text}
use Rattle.rv_inst.specs.Images.{Image, hart_opening}
use Rattle.rv_keep.specs.Hosts.{Host, Reached, At_poll, Stopped, to_poll}
use Rattle.rv_keep.specs.HostRuns.{at_poll, host_step, host_opening, counted, delivered_at}
use Rattle.rv_host.specs.declared.stop_rv.HostWild.{HostWild}
use Rattle.rv_host.specs.declared.stop_rv.HostWild.TheVariants as wild
use Rattle.rv_host.specs.declared.stop_rv.StopRv.{StopRv}
use Rattle.rv_host.specs.declared.stop_rv.StopRv.TheVariants.{Stop as Stops, Wild as Goes_wild, Trap as Traps}
use Rattle.rv_host.specs.declared.host_state.HostState.{HostState}
use Rattle.rv_host.specs.LiveFrames.{AreLive}
use Rattle.rv_host.specs.HostStates.{SeenHost, seen_of, host_with, host_of, AreMarked}

-- the cause that the code names
abbrev pub cause_of : HostWild → WildCause
cause_of wild.Frame = Wild_frame
cause_of wild.Array = Wild_array
cause_of wild.Place = Wild_place
cause_of wild.Ecall = Wild_ecall

-- ---- the way to the poll

-- the messages on their way at a poll, or where the way to it stops
abbrev pub pending_at : Reached → List Message
pending_at (At_poll s) = s.pending
pending_at (Stopped how s) = s.pending

-- a message is sent on the way
abbrev pub Sends : List Message → Reached → Type 0
Sends pending reached = length pending < length (pending_at reached)

-- the way from a state is at a poll in another, or stops there; memory is wanted only where a message is sent on it
abbrev pub Arrives : Reached → Host → Host → Result Unit StopRv → Type 0
Arrives reached s t (Ok u) = reached ≡ At_poll t
Arrives reached s t (Err (Goes_wild what n)) = reached ≡ Stopped (Wild (cause_of what) n) t
Arrives reached s t (Err (Traps pc cause)) = reached ≡ Stopped (Trap pc (trap_text cause)) t
Arrives reached s t (Err (Stops NoMemory)) = Sends s.pending reached
Arrives reached s t (Err (Stops (DoubleWrite first second))) = ⊥
Arrives reached s t (Err (Stops (OutOfRange site i n))) = ⊥
Arrives reached s t (Err (Stops (FramesFull n))) = ⊥
Arrives reached s t (Err (Stops (CellsFull used n))) = ⊥
Arrives reached s t (Err (Stops (BudgetSpent n))) = ⊥

-- one step leads from a state to another, and tells whether it is at a poll there
abbrev pub Leads : ℕ → Host → Host → Result Bool StopRv → Type 0
Leads n s t (Ok true) = to_poll (suc n) s ≡ At_poll t
Leads n s t (Ok false) = to_poll (suc n) s ≡ to_poll n t
Leads n s t (Err stop) = Arrives (to_poll (suc n) s) s t (Err stop)

-- one step with the numbers that are live behind it
pub record IsLed (n : ℕ) (s : Host) (new : HostState) (hart : Hart) (result : Result Bool StopRv) : Type 0 where
  pub live : List ℕ
  pub are_live : AreLive new.numbers live
  pub leads : Leads n s (host_of new hart s.order s.printed live) result

-- what the code keeps does one step
abbrev pub StepsOnce : HostState → HostState → Hart → Hart → Result Bool StopRv → Type 0
StepsOnce old new hart hart' result =
    (n : ℕ) (order : List Item) (printed : List (ℕ × ℕ)) (live : List ℕ) → AreLive old.numbers live
    → IsLed n (host_of old hart order printed live) new hart' result

-- the same where that step was a call, and is made already
abbrev pub Serves : HostState → HostState → Hart → Result Bool StopRv → Type 0
Serves old new hart result =
    (n : ℕ) (before : Hart) (order : List Item) (printed : List (ℕ × ℕ)) (live : List ℕ) → hart_step before ≡ Called hart → AreLive old.numbers live
    → IsLed n (host_of old before order printed live) new hart result

-- the way with the numbers that are live behind it
pub record HasArrived (reached : Reached) (s : Host) (new : HostState) (hart : Hart) (result : Result Unit StopRv) : Type 0 where
  pub live : List ℕ
  pub are_live : AreLive new.numbers live
  pub arrives : Arrives reached s (host_of new hart s.order s.printed live) result

-- what the code keeps goes the way to the poll
abbrev pub Reaches : ℕ → HostState → HostState → Hart → Hart → Result Unit StopRv → Type 0
Reaches n old new hart hart' result =
    (order : List Item) (printed : List (ℕ × ℕ)) (live : List ℕ) → AreLive old.numbers live
    → HasArrived (to_poll n (host_of old hart order printed live)) (host_of old hart order printed live) new hart' result

-- ---- the event

-- memory is wanted only where the run would go on, or a message is sent on the way to the poll
abbrev pub MayWant : Type 0 → Outcome Host → Type 0
MayWant sends (Next s) = Unit {0}
MayWant sends (Ended how s) = sends

-- the answer is what comes of an event: the state with what was printed, or how the run ended
abbrev pub IsOutcome : Type 0 → Outcome Host → Host → Result Made StopRv → Type 0
IsOutcome sends outcome t (Ok Ran) = outcome ≡ Next t
IsOutcome sends outcome t (Ok Delivered) = outcome ≡ Next t
IsOutcome sends outcome t (Ok (Printed k w)) = outcome ≡ Next (record t { printed = t.printed ++ (k, w) ∷ [] })
IsOutcome sends outcome t (Ok Made_quiet) = outcome ≡ Ended Quiet t
IsOutcome sends outcome t (Err (Stops (DoubleWrite first second))) = outcome ≡ Ended (Double_write first second) t
IsOutcome sends outcome t (Err (Stops (OutOfRange site i n))) = outcome ≡ Ended (Out_of_range site i n) t
IsOutcome sends outcome t (Err (Stops (FramesFull n))) = outcome ≡ Ended (Frames_full n) t
IsOutcome sends outcome t (Err (Stops (CellsFull used n))) = outcome ≡ Ended (Cells_full used n) t
IsOutcome sends outcome t (Err (Stops (BudgetSpent n))) = outcome ≡ Ended (Budget_spent n) t
IsOutcome sends outcome t (Err (Stops NoMemory)) = MayWant sends outcome
IsOutcome sends outcome t (Err (Goes_wild what n)) = outcome ≡ Ended (Wild (cause_of what) n) t
IsOutcome sends outcome t (Err (Traps pc cause)) = outcome ≡ Ended (Trap pc (trap_text cause)) t

-- what was printed behind an answer
abbrev pub printed_behind : List (ℕ × ℕ) → Result Made StopRv → List (ℕ × ℕ)
printed_behind printed (Ok Ran) = printed
printed_behind printed (Ok Delivered) = printed
printed_behind printed (Ok (Printed k w)) = printed ++ (k, w) ∷ []
printed_behind printed (Ok Made_quiet) = printed
printed_behind printed (Err stop) = printed

-- what was printed is marked behind it, where it was before
abbrev pub Marks : HostState → HostState → Result Made StopRv → Type 0
Marks old new result = (printed : List (ℕ × ℕ)) → AreMarked old.printed.items printed → AreMarked new.printed.items (printed_behind printed result)

-- an event more was made, but where the run ends
abbrev pub IsCounted : ℕ → ℕ → Result Made StopRv → Type 0
IsCounted old new (Ok Ran) = new ≡ old + 1
IsCounted old new (Ok Delivered) = new ≡ old + 1
IsCounted old new (Ok (Printed k w)) = new ≡ old + 1
IsCounted old new (Ok Made_quiet) = Unit {0}
IsCounted old new (Err stop) = Unit {0}

-- the answer doesn't say that the run is quiet
abbrev pub GoesOn : Result Made StopRv → Type 0
GoesOn (Ok Ran) = Unit {0}
GoesOn (Ok Delivered) = Unit {0}
GoesOn (Ok (Printed k w)) = Unit {0}
GoesOn (Ok Made_quiet) = ⊥
GoesOn (Err stop) = Unit {0}

-- what the code keeps does one thing of the definition, which leaves the live numbers as they are
abbrev pub Delivers : (Host → Outcome Host) → HostState → HostState → Hart → Hart → Result Made StopRv → Type 0
Delivers step old new hart hart' result =
    (order : List Item) (printed : List (ℕ × ℕ)) (live : List ℕ) → AreMarked old.printed.items printed → AreLive old.numbers live
    → IsOutcome ⊥ (step (host_of old hart order printed live)) (host_of new hart' order printed live) result

-- an event with the numbers that are live behind it
pub record IsMade (sends : Type 0) (outcome : Outcome Host) (new : SeenHost) (hart : Hart) (order : List Item) (printed : List (ℕ × ℕ))
    (result : Result Made StopRv) : Type 0 where
  pub live : List ℕ
  pub are_live : AreLive new.numbers live
  pub is : IsOutcome sends outcome (host_with new hart order printed live) result

-- what the code keeps does one thing of the definition for an image with as many results, behind which the order goes on
abbrev pub Makes : (Image → Host → Outcome Host) → HostState → HostState → Hart → Hart → Result Made StopRv → Type 0
Makes step old new hart hart' result =
    (image : Image) (order : List Item) (printed : List (ℕ × ℕ)) (live : List ℕ) → image.results ≡ length old.printed.items
    → AreMarked old.printed.items printed → AreLive old.numbers live
    → IsMade ⊥ (step image (host_of old hart order printed live)) (seen_of new) hart' order printed result

-- the same, where the order is another before
abbrev pub MakesOf : (Image → Host → Outcome Host) → HostState → HostState → Hart → Hart → List Item → List Item → Result Made StopRv → Type 0
MakesOf step old new hart hart' order order' result =
    (image : Image) (printed : List (ℕ × ℕ)) (live : List ℕ) → image.results ≡ length old.printed.items
    → AreMarked old.printed.items printed → AreLive old.numbers live
    → IsMade ⊥ (step image (host_of old hart order printed live)) (seen_of new) hart' order' printed result

-- what the code keeps delivers the message at a place, in an event that is counted and behind which the order goes on
abbrev pub DeliversAt : Limits → ℕ → HostState → HostState → Hart → Hart → Result Made StopRv → Type 0
DeliversAt limits place old new hart hart' result =
    (image : Image) (before order : List Item) (printed : List (ℕ × ℕ)) (live : List ℕ) → image.results ≡ length old.printed.items
    → AreMarked old.printed.items printed → AreLive old.numbers live
    → IsMade ⊥ (delivered_at image limits (counted (host_of old hart before printed live) order) place (slice_get old.pending.messages place))
    (seen_of new) hart' order printed result

-- what the code keeps makes the event at the next poll, within so many instructions
abbrev pub Advances : ℕ → Limits → HostState → HostState → Hart → Hart → List Item → List Item → Result Made StopRv → Type 0
Advances n limits old new hart hart' order order' result =
    (image : Image) (printed : List (ℕ × ℕ)) (live : List ℕ) → image.results ≡ length old.printed.items
    → AreMarked old.printed.items printed → AreLive old.numbers live
    → IsMade (Sends old.pending.messages (to_poll n (host_of old hart order printed live)))
    (at_poll image limits (to_poll n (host_of old hart order printed live))) (seen_of new) hart' order' printed result

-- ---- polls

-- what contracts see of a host: its limits, what it keeps, the instructions that were carried out, and the answer that ended the run, if one did
pub record HostRun : Type 0 where
  pub limits : Limits
  pub state : SeenHost
  pub instructions : ℕ
  pub ended : Option (Result Made StopRv)

-- the answer, where the run ends by it
abbrev pub ended_by : Result Made StopRv → Option (Result Made StopRv)
ended_by (Ok Ran) = None
ended_by (Ok Delivered) = None
ended_by (Ok (Printed k w)) = None
ended_by (Ok Made_quiet) = Some (Ok Made_quiet)
ended_by (Err stop) = Some (Err stop)

-- the answer is that of one step of the definition, for each image with as many results, and what was printed is marked
pub record IsStep (image : Image) (limits : Limits) (old new : SeenHost) (hart hart' : Hart) (order order' : List Item) (printed : List (ℕ × ℕ))
    (live : List ℕ) (result : Result Made StopRv) : Type 0 where
  pub made : IsMade (Sends old.pending (to_poll 16777216 (host_with old hart order printed live)))
      (host_step image limits (host_with old hart order printed live)) new hart' order' printed result
  pub marks : AreMarked new.marks (printed_behind printed result)

-- what one call answers: one event, or where the run has ended before, the same answer once more
abbrev pub IsPoll : HostRun → HostRun → Hart → Hart → List Item → List Item → Result Made StopRv → Option (Result Made StopRv) → Type 0
IsPoll old new hart hart' order order' result (Some answer) = (result ≡ answer) × (new ≡ old) × (hart' ≡ hart) × (order' ≡ order)
IsPoll old new hart hart' order order' result None =
    ((image : Image) (printed : List (ℕ × ℕ)) (live : List ℕ) → image.results ≡ length old.state.marks → AreMarked old.state.marks printed
    → AreLive old.state.numbers live
    → IsStep image old.limits old.state new.state hart hart' order order' printed live result)
    × (new.ended ≡ ended_by result)

-- before the first event: the number 0 is live, nothing was printed, and with a machine at the first word of an image it is the definition's
pub record IsOpening (args : List ℕ) (limits : Limits) (results : ℕ) (run : HostRun) : Type 0 where
  pub opening : (image : Image) (order : List Item)
      → host_with run.state (hart_opening image limits.frames) order [] (0 ∷ []) ≡ host_opening image args order limits
  pub are_live : AreLive run.state.numbers (0 ∷ [])
  pub are_marked : AreMarked run.state.marks []
  pub as_many : length run.state.marks ≡ results
  pub limited : run.limits ≡ limits
  pub instructions : run.instructions ≡ 0
  pub goes : run.ended ≡ None
