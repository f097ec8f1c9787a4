-- What one event of a run answers, and what contracts see of a run.
use Rattle.std.specs.Prelude.{ℕ, List, [], ◌∷◌, ◌++◌, ◌≡◌, flat_map, zip, length, Option, Some, None, Result, Ok, Err, slice_get}
use Rattle.tam_msgs.specs.declared.item.Item.{Item}
use Rattle.tam_msgs.specs.declared.limits.Limits.{Limits}
use Rattle.tam_msgs.specs.declared.step.Step.{Step}
use Rattle.tam_msgs.specs.declared.step.Step.TheVariants.{Ran, Delivered, Printed, Quiet as Step_quiet}
use Rattle.tam_msgs.specs.declared.stop.Stop.{Stop}
use Rattle.tam_msgs.specs.declared.stop.Stop.TheVariants.{DoubleWrite, OutOfRange, FramesFull, CellsFull, BudgetSpent, NoMemory}
use Rattle.tam_msgs.specs.declared.choice.Choice.{Choice}
use Rattle.tam_msgs.specs.declared.choice.Choice.TheVariants.{Quiet as Choose_quiet, Run as Choose_run, Deliver as Choose_delivery}
use Rattle.tam_msgs.specs.Runs.{choice, Quiet, Double_write, Out_of_range, Frames_full, Cells_full, Budget_spent, End, Outcome, Next, Ended}
use Rattle.tam_word.specs.Lists.{below}
use Rattle.tam_graph.specs.Graphs.{Graph}
use Rattle.tam_world.specs.Worlds.{opening, argument_message, Fault, Second_store, Outside_cells}
use Rattle.tam_world.specs.Effects.{delivery_in}
use Rattle.tam_world.specs.declared.delivery.Delivery.{Delivery}
use Rattle.tam_eval.specs.GraphRuns.{GraphState, joins, nothing_begun, some_ready, graph_step, refusal, after_delivery, delivered_unless, fired_first}
use Rattle.tam_eval.specs.GraphRuns.{counted, delivered_at}
use Rattle.tam_eval.specs.Machines.{EvalState, state_of}
use Rattle.tam_eval.specs.declared.machine.Machine.{Machine}
use Rattle.tam_msgs.specs.declared.message.Message.{Message}

-- with the order list and what was printed, which the caller keeps
abbrev pub state_with : EvalState → List Item → List (ℕ × ℕ) → GraphState
state_with s order printed = record { world = s.world; ready = s.ready; pending = s.pending; order = order; printed = printed; events = s.events }

-- the run goes on
abbrev pub GoesOn : Outcome GraphState → Type 0
GoesOn (Next s) = Unit {0}
GoesOn (Ended how s) = ⊥

-- the answer is what comes of an event: the state and what was printed, or how the run ended; memory is wanted only where it would go on
abbrev pub IsOutcome : Outcome GraphState → EvalState → List Item → List (ℕ × ℕ) → Result Step Stop → Type 0
IsOutcome outcome s order printed (Ok Ran) = outcome ≡ Next (state_with s order printed)
IsOutcome outcome s order printed (Ok Delivered) = outcome ≡ Next (state_with s order printed)
IsOutcome outcome s order printed (Ok (Printed k w)) = outcome ≡ Next (state_with s order (printed ++ (k, w) ∷ []))
IsOutcome outcome s order printed (Ok Step_quiet) = outcome ≡ Ended Quiet (state_with s order printed)
IsOutcome outcome s order printed (Err (DoubleWrite first second)) = outcome ≡ Ended (Double_write first second) (state_with s order printed)
IsOutcome outcome s order printed (Err (OutOfRange a i n)) = outcome ≡ Ended (Out_of_range a i n) (state_with s order printed)
IsOutcome outcome s order printed (Err (FramesFull n)) = outcome ≡ Ended (Frames_full n) (state_with s order printed)
IsOutcome outcome s order printed (Err (CellsFull used n)) = outcome ≡ Ended (Cells_full used n) (state_with s order printed)
IsOutcome outcome s order printed (Err (BudgetSpent n)) = outcome ≡ Ended (Budget_spent n) (state_with s order printed)
IsOutcome outcome s order printed (Err NoMemory) = GoesOn outcome

-- where the run is quiet, nothing changed
abbrev pub LeavesAtQuiet : EvalState → EvalState → List Item → List Item → Result Step Stop → Type 0
LeavesAtQuiet old new order order' (Ok Step_quiet) = (new ≡ old) × (order' ≡ order)
LeavesAtQuiet old new order order' (Ok Ran) = Unit {0}
LeavesAtQuiet old new order order' (Ok Delivered) = Unit {0}
LeavesAtQuiet old new order order' (Ok (Printed k w)) = Unit {0}
LeavesAtQuiet old new order order' (Err stop) = Unit {0}

-- the answer is that of a vertex that fired
abbrev pub IsRun : Result Step Stop → Type 0
IsRun (Ok Ran) = Unit {0}
IsRun (Ok Delivered) = ⊥
IsRun (Ok (Printed k w)) = ⊥
IsRun (Ok Step_quiet) = ⊥
IsRun (Err stop) = Unit {0}

-- the answer is that of a delivery
abbrev pub IsDelivery : Result Step Stop → Type 0
IsDelivery (Ok Ran) = ⊥
IsDelivery (Ok Delivered) = Unit {0}
IsDelivery (Ok (Printed k w)) = Unit {0}
IsDelivery (Ok Step_quiet) = ⊥
IsDelivery (Err stop) = Unit {0}

-- the answer is that of what was chosen
abbrev pub IsAnswerOf : Choice → Result Step Stop → Type 0
IsAnswerOf Choose_run result = IsRun result
IsAnswerOf (Choose_delivery k) result = IsDelivery result
IsAnswerOf Choose_quiet result = result ≡ Ok Step_quiet

-- the state before the first event: the root has begun, and the arguments are pending
abbrev pub opening_state : Graph → List ℕ → EvalState
opening_state g args = record {
  world = opening g;
  ready = joins g nothing_begun (opening g);
  pending = flat_map (argument_message g) (zip (below (length args)) args);
  events = 0;
}

-- what contracts see of a run: its graph and limits, its state, and the stop that was answered, if one was
pub record EvalRun : Type 0 where
  pub graph : Graph
  pub limits : Limits
  pub state : EvalState
  pub stopped : Option Stop

-- the stop that an answer names
abbrev pub stop_of : Result Step Stop → Option Stop
stop_of (Ok step) = None
stop_of (Err stop) = Some stop

-- what comes next
abbrev pub next_choice : EvalState → List Item → Choice
next_choice s order = (choice order (some_ready s.ready) (length s.pending)).0

-- what one call answers: one event, or where the run was stopped before, the same stop once more
abbrev pub IsEvent : EvalRun → EvalRun → List Item → List Item → Result Step Stop → Option Stop → Type 0
IsEvent old new order order' result (Some stop) = (result ≡ Err stop) × (new ≡ old) × (order' ≡ order)
IsEvent old new order order' result None =
    ((printed : List (ℕ × ℕ)) → IsOutcome (graph_step old.graph old.limits (state_with old.state order printed)) new.state order' printed result)
    × (new.stopped ≡ stop_of result) × LeavesAtQuiet old.state new.state order order' result × IsAnswerOf (next_choice old.state order) result

-- the limits have room, or refuse so
abbrev pub RefusedSo : List End → Result Unit Stop → Type 0
RefusedSo ends (Ok u) = ends ≡ []
RefusedSo ends (Err (FramesFull n)) = ends ≡ Frames_full n ∷ []
RefusedSo ends (Err (CellsFull used n)) = ends ≡ Cells_full used n ∷ []
RefusedSo ends (Err (DoubleWrite first second)) = ⊥
RefusedSo ends (Err (OutOfRange a i n)) = ⊥
RefusedSo ends (Err (BudgetSpent n)) = ⊥
RefusedSo ends (Err NoMemory) = ⊥

-- the limits have room for a message in a machine's state, or refuse it
abbrev pub Refuses : Graph → Limits → Machine → Message → Result Unit Stop → Type 0
Refuses g limits m message result =
    (order : List Item) (printed : List (ℕ × ℕ)) → RefusedSo (refusal g limits (state_with (state_of m) order printed) message) result

-- the stop tells the fault
abbrev pub IsStopOf : Fault → Stop → Type 0
IsStopOf (Second_store first second) stop = stop ≡ DoubleWrite first second
IsStopOf (Outside_cells site index len) stop = stop ≡ OutOfRange site index len

-- the answer is what comes of a delivery that the world has made
abbrev pub Settles : Graph → Machine → Machine → Delivery → Result Step Stop → Type 0
Settles g old new delivery result =
    (order : List Item) (printed : List (ℕ × ℕ))
    → IsOutcome (after_delivery g (state_with (state_of old) order printed) (delivery_in (state_of old).world delivery)) (state_of new) order printed result

-- the answer is what comes of the delivery of a message
abbrev pub Delivers : Graph → Limits → Machine → Machine → Message → Result Step Stop → Type 0
Delivers g limits old new m result =
    (order : List Item) (printed : List (ℕ × ℕ))
    → IsOutcome (delivered_unless g (state_with (state_of old) order printed) m (refusal g limits (state_with (state_of old) order printed) m))
    (state_of new) order printed result

-- the answer is what comes of the firing of what became ready first, counted as an event behind which the order goes on
abbrev pub FiresFirst : Graph → Machine → Machine → Result Step Stop → Type 0
FiresFirst g old new result =
    (order before : List Item) (printed : List (ℕ × ℕ))
    → IsOutcome (fired_first g (counted (state_with (state_of old) before printed) order) (state_of old).ready) (state_of new) order printed result

-- the answer is what comes of the delivery of the message at a place, counted likewise
abbrev pub DeliversAt : Graph → Limits → Machine → Machine → ℕ → Result Step Stop → Type 0
DeliversAt g limits old new place result =
    (order before : List Item) (printed : List (ℕ × ℕ))
    → IsOutcome (delivered_at g limits (counted (state_with (state_of old) before printed) order) place (slice_get (state_of old).pending place))
    (state_of new) order printed result

-- the answer is what comes of one step
abbrev pub Advances : Graph → Limits → Machine → Machine → List Item → List Item → Result Step Stop → Type 0
Advances g limits old new order order' result =
    (printed : List (ℕ × ℕ)) → IsOutcome (graph_step g limits (state_with (state_of old) order printed)) (state_of new) order' printed result
