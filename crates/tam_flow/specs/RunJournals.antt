-- What it says that a run has a journal: the same words delivered to the outside, and an end that the journal's state bears out.
use Rattle.std.specs.Prelude.{ℕ, ◌+◌, ◌*◌, ◌≡◌, ◌<◌, ◌≤◌, ◌↔◌, List, Some, length, Contains, IsTrue}
use Rattle.tam_msgs.specs.declared.message.Message.TheVariants.{Frame as Begin, Cells as Make}
use Rattle.tam_msgs.specs.declared.limits.Limits.{Limits}
use Rattle.tam_graph.specs.Graphs.{Graph}
use Rattle.tam_istr.specs.Cells.{cells_used}
use Rattle.tam_split.specs.GraphPartitions.{Partitions}
use Rattle.tam_fire.specs.FiringRules.{Instance, Instances}
use Rattle.tam_msgs.specs.Runs.{End, Quiet, Double_write, Out_of_range, Frames_full, Cells_full, Budget_spent}
use Rattle.tam_world.specs.Worlds.{Second_store, Outside_cells}
use Rattle.tam_flow.specs.Journals.{Event, State, is_legal, state_after, on_their_way, IsQuiet}
use Rattle.tam_flow.specs.Told.{Tells}

-- each event is charged to an instance that the state tells of, at most three to one, and one to the root
abbrev pub IsCharged : Graph → Partitions → State → ℕ → Type 0
IsCharged g all s made = (xs : List Instance) × Instances (Tells g all s) xs × (made ≤ 3 * length xs + 1)

-- the run ended so, by the state of its journal: a double write and an access outside are the journal's last event;
-- a delivery that was refused for frames or cells isn't in it, and its message is on its way
pub record EndsSo (g : Graph) (all : Partitions) (args : List ℕ) (limits : Limits) (events : List Event) (how : End) (made : ℕ) : Type 0 where
  pub quiet : how ≡ Quiet → IsQuiet g all args events
  pub double : (s t : ℕ) → how ≡ Double_write s t ↔ ((state_after g all args events).fault ≡ Some (Second_store s t))
  pub outside : (s i l : ℕ) → how ≡ Out_of_range s i l ↔ ((state_after g all args events).fault ≡ Some (Outside_cells s i l))
  pub frames : (n : ℕ) → how ≡ Frames_full n → (n ≡ limits.frames) × (n ≤ length (state_after g all args events).world.activations)
      × ((c f x : ℕ) × Contains (on_their_way (state_after g all args events)) (Begin c f x))
  pub cells : (u l : ℕ) → how ≡ Cells_full u l → (limits.cells < u + l) × (cells_used (state_after g all args events).world.arrays ≡ u)
      × ((f x : ℕ) × Contains (on_their_way (state_after g all args events)) (Make l f x))
  pub budget : (n : ℕ) → how ≡ Budget_spent n → (n ≡ limits.budget) × (made ≡ n)
  pub charged : IsCharged g all (state_after g all args events) made

-- a run that ended so, with these words printed, so many activations begun and so many events made, has a journal
pub record HasJournal (g : Graph) (all : Partitions) (args : List ℕ) (limits : Limits) (how : End)
    (printed : List (ℕ × ℕ)) (activations made : ℕ) : Type 0 where
  pub events : List Event
  pub legal : IsTrue (is_legal g all args events)
  pub same_words : (state_after g all args events).printed ≡ printed
  pub same_activations : length (state_after g all args events).world.activations ≡ activations
  pub ends_so : EndsSo g all args limits events how made
