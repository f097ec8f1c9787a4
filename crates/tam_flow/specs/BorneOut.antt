-- What a run of any level shows of itself, so that its report is right: a journal, and an end that the journal's state bears out.
-- Nothing else of a run is used: neither its order, nor how it keeps its state, nor over which valid partitions its journal goes.
use Rattle.std.specs.Prelude.{ℕ, ◌+◌, ◌≡◌, ◌<◌, ◌≤◌, List, Some, None, length, Contains}
use Rattle.tam_msgs.specs.declared.message.Message.TheVariants.{Frame as Begin, Cells as Make}
use Rattle.tam_msgs.specs.declared.limits.Limits.{Limits}
use Rattle.tam_graph.specs.Graphs.{Graph, code_of, results_of}
use Rattle.tam_istr.specs.Cells.{cells_used}
use Rattle.tam_split.specs.GraphPartitions.{Partitions}
use Rattle.tam_msgs.specs.Runs.{End, Quiet, Double_write, Out_of_range, Frames_full, Cells_full, Budget_spent, Wild, Trap, Report}
use Rattle.tam_world.specs.Worlds.{Second_store, Outside_cells}
use Rattle.tam_flow.specs.Journals.{Event, State, state_after, on_their_way, IsQuiet}
use Rattle.tam_flow.specs.JournalLaws.{IsJournal}
use Rattle.tam_flow.specs.RunJournals.{IsCharged}
use Rattle.tam_flow.specs.Headline.{IsRight}

-- a wish for an activation is on its way
abbrev pub WantsActivation : State → Type 0
WantsActivation s = (c f x : ℕ) × Contains (on_their_way s) (Begin c f x)

-- a wish for an array of n cells is
abbrev pub WantsCells : State → ℕ → Type 0
WantsCells s n = (f x : ℕ) × Contains (on_their_way s) (Make n f x)

-- the state behind the journal bears out the end: of a delivery that was refused and of a spent budget it has no fault.
-- Where frames are given back, more activations than are live may have begun
abbrev pub BearsOut : Graph → Partitions → List ℕ → Limits → List Event → ℕ → End → Type 0
BearsOut g all args limits events made Quiet = IsQuiet g all args events
BearsOut g all args limits events made (Double_write a b) = (state_after g all args events).fault ≡ Some (Second_store a b)
BearsOut g all args limits events made (Out_of_range a i l) = (state_after g all args events).fault ≡ Some (Outside_cells a i l)
BearsOut g all args limits events made (Frames_full n) =
    (n ≡ limits.frames) × (n ≤ length (state_after g all args events).world.activations) × WantsActivation (state_after g all args events)
    × ((state_after g all args events).fault ≡ None)
BearsOut g all args limits events made (Cells_full u l) =
    (limits.cells < u + l) × (cells_used (state_after g all args events).world.arrays ≡ u) × WantsCells (state_after g all args events) l
    × ((state_after g all args events).fault ≡ None)
BearsOut g all args limits events made (Budget_spent n) = (n ≡ limits.budget) × (made ≡ n) × ((state_after g all args events).fault ≡ None)
BearsOut g all args limits events made (Wild what n) = ⊥
BearsOut g all args limits events made (Trap pc cause) = ⊥

-- what a level shows of a report
pub record IsBorneOut (g : Graph) (all : Partitions) (args : List ℕ) (limits : Limits) (r : Report) : Type 0 where
  pub events : List Event
  pub journal : IsJournal g all args events
  pub printed : (state_after g all args events).printed ≡ r.printed
  pub activations : length (state_after g all args events).world.activations ≡ r.activations
  pub cells : cells_used (state_after g all args events).world.arrays ≡ r.cells
  pub results : r.results ≡ results_of (code_of g g.main)
  pub ends : BearsOut g all args limits events r.events r.how
  pub charged : IsCharged g all (state_after g all args events) r.events

-- a report that is borne out is right
abbrev pub BorneOutIsRight : Type 0
BorneOutIsRight = (g : Graph) (all : Partitions) (args : List ℕ) (limits : Limits) (r : Report) → IsBorneOut g all args limits r → IsRight g args limits r
