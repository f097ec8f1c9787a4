-- Whom a state of a run of a graph names, and that each of these has begun and isn't given back.
use Rattle.std.specs.Prelude.{ℕ, ◌≡◌, ◌≢◌, ◌<◌, false, List, ◌++◌, flat_map, length, Contains}
use Rattle.tam_msgs.specs.declared.item.Item.{Item}
use Rattle.tam_msgs.specs.declared.limits.Limits.{Limits}
use Rattle.tam_msgs.specs.Messages.{outside}
use Rattle.tam_graph.specs.Graphs.{Graph}
use Rattle.tam_msgs.specs.Runs.{End, Ended, after_events}
use Rattle.tam_eval.specs.GraphRuns.{GraphState, graph_step, graph_opening, is_given_back}
use Rattle.tam_eval.specs.GraphLaws.{IsAfter}
use Rattle.tl0_keep.specs.ThreadNames.{named_in, waiting_at}
use Rattle.tl0_keep.specs.ThreadLaws.{IsJob}

-- those that messages on their way name, and those that wait at cells
abbrev pub names_in : GraphState → List ℕ
names_in s = flat_map named_in s.pending ++ flat_map (flat_map waiting_at) s.world.arrays

-- an activation has begun and isn't given back
abbrev pub IsLiveIn : Graph → GraphState → ℕ → Type 0
IsLiveIn g s i = (i < length s.world.activations) × (is_given_back g s i ≡ false)

-- so it is of each that a state of a run names, but for the outside
abbrev pub GraphNamesAreLive : Type 0
GraphNamesAreLive = (g : Graph) (args : List ℕ) (order : List Item) (limits : Limits) (n : ℕ) (s : GraphState) → IsJob g args limits
    → IsAfter g args order limits n s → (i : ℕ) → Contains (names_in s) i → i ≢ outside → IsLiveIn g s i

-- and of each that the state names which an end leaves
abbrev pub GraphEndNamesAreLive : Type 0
GraphEndNamesAreLive = (g : Graph) (args : List ℕ) (order : List Item) (limits : Limits) (n : ℕ) (how : End) (s : GraphState) → IsJob g args limits
    → after_events (graph_step g limits) n (graph_opening g args order) ≡ Ended how s → (i : ℕ) → Contains (names_in s) i → i ≢ outside → IsLiveIn g s i
