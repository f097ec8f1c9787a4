-- A run of a graph is a journal over the partitions with one class per vertex, and refuses an activation only where as many are live as may be.
use Rattle.std.specs.Prelude.{ℕ, ◌+◌, ◌≡◌, ◌<◌, ◌≤◌, Bool, true, false, List, Option, Some, length, slice_get}
use Rattle.tam_msgs.specs.declared.choice.Choice.{Choice}
use Rattle.tam_msgs.specs.declared.choice.Choice.TheVariants.{Deliver as Choose_delivery}
use Rattle.tam_msgs.specs.declared.message.Message.{Message}
use Rattle.tam_msgs.specs.declared.message.Message.TheVariants.{Frame as Begin}
use Rattle.tam_msgs.specs.declared.limits.Limits.{Limits}
use Rattle.tam_graph.specs.Graphs.{Graph, AreArguments}
use Rattle.tam_graph.specs.Accepted.{IsAccepted}
use Rattle.tam_split.specs.GraphPartitions.{singles}
use Rattle.tam_msgs.specs.Messages.{AreLimits}
use Rattle.tam_msgs.specs.Runs.{End, Quiet, Frames_full, Next, run_from, after_events, choice}
use Rattle.tam_msgs.specs.declared.item.Item.{Item}
use Rattle.tam_flow.specs.Journals.{IsQuiet}
use Rattle.tam_flow.specs.RunJournals.{HasJournal}
use Rattle.tam_eval.specs.GraphRuns.{GraphState, graph_step, graph_opening, graph_told, is_given_back, live_activations, some_ready}

-- the run has a journal, and is quiet where the journal is
pub record IsGraphJournal (g : Graph) (args : List ℕ) (limits : Limits) (e : End × GraphState) : Type 0 where
  pub journal : HasJournal g (singles g) args limits e.0 (e.1).printed (length (e.1).world.activations) (e.1).events
  pub quiet_too : IsQuiet g (singles g) args journal.events → e.0 ≡ Quiet

-- each run of an accepted graph is a journal
abbrev pub GraphRunsAreJournals : Type 0
GraphRunsAreJournals = (g : Graph) (args : List ℕ) (order : List Item) (limits : Limits) → IsAccepted g → AreArguments g args → AreLimits limits
    → IsGraphJournal g args limits (run_from (graph_step g limits) limits.budget (graph_opening g args order))

-- ---- live activations

-- the run of a graph is in this state after n events
abbrev pub IsAfter : Graph → List ℕ → List Item → Limits → ℕ → GraphState → Type 0
IsAfter g args order limits n s = after_events (graph_step g limits) n (graph_opening g args order) ≡ Next s

-- what is given back stays so
abbrev pub GivenBackStays : Type 0
GivenBackStays = (g : Graph) (args : List ℕ) (order : List Item) (limits : Limits) (n later : ℕ) (s t : GraphState) (i : ℕ)
    → IsAfter g args order limits n s → IsAfter g args order limits (n + later) t → i < length s.world.activations
    → is_given_back g s i ≡ true → is_given_back g t i ≡ true

-- no more activations are live than the stated count
abbrev pub LiveAreFew : Type 0
LiveAreFew = (g : Graph) (args : List ℕ) (order : List Item) (limits : Limits) (n : ℕ) (s : GraphState) → AreLimits limits
    → IsAfter g args order limits n s → live_activations g s ≤ limits.frames

-- a message wishes for an activation
abbrev pub is_wish : Option Message → Bool
is_wish (Some (Begin c f x)) = true
is_wish _ = false

-- what is chosen is the delivery of such a message
abbrev pub delivers_wish : GraphState → Choice × List Item → Bool
delivers_wish s (Choose_delivery k, rest) = is_wish (slice_get s.pending k)
delivers_wish s _ = false

-- the event that comes next delivers a wish for an activation
abbrev pub takes_activation : GraphState → Bool
takes_activation s = delivers_wish s (choice s.order (some_ready s.ready) (length s.pending))

-- at each delivery of a wish for an activation in the run, the live ones and the one asked for are within the stated count
abbrev pub ActivationsSuffice : Graph → List ℕ → List Item → Limits → Type 0
ActivationsSuffice g args order limits =
    (n : ℕ) (s : GraphState) → IsAfter g args order limits n s → takes_activation s ≡ true → live_activations g s + 1 ≤ limits.frames

-- then none is refused
abbrev pub EnoughIsNotRefused : Type 0
EnoughIsNotRefused = (g : Graph) (args : List ℕ) (order : List Item) (limits : Limits) (n : ℕ) → ActivationsSuffice g args order limits
    → ¬ ((graph_told g args order limits).how ≡ Frames_full n)
