-- How the state of a run of threads tells the state of a journal: messages and readers name inlets where the journal names nodes; and whom a state names.
-- The rule in words: docs/ARCHITECTURE.md, "A run of threads is a journal".
use Rattle.std.specs.Prelude.{ℕ, ◌+◌, ◌≡◌, ◌≢◌, true, false, ◌==◌, List, [], ◌∷◌, ◌++◌, map, flat_map, None, length, IsTrue, Contains}
use Rattle.tam_msgs.specs.declared.message.Message.{Message}
use Rattle.tam_msgs.specs.declared.message.Message.TheVariants.{Word as Carry, Frame as Begin, Cells as Make, Fetch as Ask_cell, Store as Put_cell}
use Rattle.tam_msgs.specs.Messages.{outside}
use Rattle.tam_istr.specs.Cells.{Cell, Empty, Filled, Reader, Arrays}
use Rattle.tam_graph.specs.Graphs.{Graph}
use Rattle.tam_split.specs.GraphPartitions.{partitions}
use Rattle.tam_world.specs.Worlds.{World, its_code}
use Rattle.tam_flow.specs.Journals.{Event, State, state_after, on_their_way}
use Rattle.tam_flow.specs.JournalLaws.{IsJournal}
use Rattle.tam_flow.specs.RunJournals.{IsCharged}
use Rattle.tam_flow.specs.BorneOut.{WantsActivation}
use Rattle.frame_tables.specs.FrameTables.{frame_at, is_live}
use Rattle.tl0_code.specs.Machines.{Machine}
use Rattle.tl0_keep.specs.Compiled.{inlet_of}

-- ---- from nodes to inlets

-- the inlet of node x of activation f; the outside's places stay
abbrev pub inlet_at : Graph → World → ℕ → ℕ → ℕ
inlet_at g w f x = elim (f == outside) [ true ↦ x | false ↦ inlet_of g (its_code g w f) x ]

-- a message of a journal as threads send it
abbrev pub thread_message : Graph → World → Message → Message
thread_message g w (Carry f x v) = Carry f (inlet_at g w f x) v
thread_message g w (Begin c f x) = Begin c f (inlet_at g w f x)
thread_message g w (Make n f x) = Make n f (inlet_at g w f x)
thread_message g w (Ask_cell a i f x s) = Ask_cell a i f (inlet_at g w f x) s
thread_message g w (Put_cell a i v s) = Put_cell a i v s

-- a reader of a journal as threads name it
abbrev pub thread_reader : Graph → World → Reader → Reader
thread_reader g w r = (r.0, inlet_at g w r.0 r.1)

-- a cell
abbrev pub thread_cell : Graph → World → Cell → Cell
thread_cell g w (Empty readers) = Empty (map (thread_reader g w) readers)
thread_cell g w (Filled v s) = Filled v s

-- the arrays
abbrev pub thread_arrays : Graph → World → Arrays → Arrays
thread_arrays g w arrays = map (map (thread_cell g w)) arrays

-- what a state of a run, in which no frame is given back, shares with the state of its journal
pub record Shares (g : Graph) (m : Machine) (s : State) : Type 0 where
  pub printed : s.printed ≡ m.printed
  pub pending : map (thread_message g s.world) (on_their_way s) ≡ m.pending
  pub arrays : thread_arrays g s.world s.world.arrays ≡ m.arrays
  pub activations : length s.world.activations ≡ m.begun
  pub frames : length m.table.frames ≡ m.begun
  pub codes : m.codes ≡ map (λ a. a.code) s.world.activations
  pub no_fault : s.fault ≡ None

-- the run up to such a state has a journal over the partitions by least pairs, to whose instances its events are charged. Where a wish for a frame
-- is on its way one event more can be charged: its delivery, which counts where the frame is refused
pub record HasStateJournal (g : Graph) (args : List ℕ) (m : Machine) : Type 0 where
  pub events : List Event
  pub journal : IsJournal g (partitions g) args events
  pub shares : Shares g m (state_after g (partitions g) args events)
  pub charged : IsCharged g (partitions g) (state_after g (partitions g) args events) m.events
  pub charged_wish : WantsActivation (state_after g (partitions g) args events)
      → IsCharged g (partitions g) (state_after g (partitions g) args events) (m.events + 1)

-- ---- whom a state names as receiver or asker

-- whom a message names
abbrev pub named_in : Message → List ℕ
named_in (Carry f i w) = f ∷ []
named_in (Begin c f i) = f ∷ []
named_in (Make n f i) = f ∷ []
named_in (Ask_cell a i f x s) = f ∷ []
named_in (Put_cell a i w s) = []

-- who waits at a cell
abbrev pub waiting_at : Cell → List ℕ
waiting_at (Empty readers) = map (λ r. r.0) readers
waiting_at (Filled w s) = []

-- whom a state names
abbrev pub names_of : Machine → List ℕ
names_of m = flat_map named_in m.pending ++ flat_map (flat_map waiting_at) m.arrays

-- frame f is named by no message and no reader, and no thread of it is ready
pub record IsLeftAlone (m : Machine) (f : ℕ) : Type 0 where
  pub unnamed : ¬ Contains (names_of m) f
  pub at_rest : (frame_at m.table f).ready ≡ []

-- each frame that is named is live, but for the outside
abbrev pub NamesAreLive : Machine → Type 0
NamesAreLive m = (f : ℕ) → Contains (names_of m) f → f ≢ outside → IsTrue (is_live m.table f)
