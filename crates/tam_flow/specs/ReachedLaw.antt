-- The law that the state of each legal journal has what every reached state is to have.
use Rattle.std.specs.Prelude.{ℕ, List}
use Rattle.tam_graph.specs.Graphs.{Graph}
use Rattle.tam_split.specs.GraphPartitions.{Partitions}
use Rattle.tam_flow.specs.Journals.{Event, state_after}
use Rattle.tam_flow.specs.JournalLaws.{IsJournal}
use Rattle.tam_flow.specs.Reached.{IsReached}

-- the state of each legal journal is one that is reached
abbrev pub JournalsAreReached : Type 0
JournalsAreReached = (g : Graph) (all : Partitions) (args : List ℕ) (events : List Event) → IsJournal g all args events
    → IsReached g all args (state_after g all args events)
