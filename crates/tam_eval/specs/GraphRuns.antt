-- A run of a graph: one event is the firing of one vertex or the delivery of one message. Activations are numbered as they begin, and given back when
-- they are done; no number is used again.
use Rattle.std.specs.Prelude.{ℕ, ◌+◌, Bool, true, false, not, ◌==◌, nat_lt, List, [], ◌∷◌, ◌++◌, map, filter, flat_map, Option, Some, None, slice_get, length}
use Rattle.std.specs.Prelude.{zip, ◌&&◌, count_by}
use Rattle.tam_word.specs.Lists.{below, all_of, any_of, without_place}
use Rattle.tam_msgs.specs.declared.message.Message.{Message}
use Rattle.tam_msgs.specs.declared.message.Message.TheVariants.{Frame as Begin, Cells as Make}
use Rattle.tam_msgs.specs.declared.limits.Limits.{Limits}
use Rattle.tam_graph.specs.Graphs.{Graph, code_of, kind_at, block_at, operands_of, fires, node_numbers, results_of}
use Rattle.tam_split.specs.declared.vertex.Vertex.{Vertex}
use Rattle.tam_split.specs.Blocks.{vertices_of}
use Rattle.tam_istr.specs.Cells.{cells_used}
use Rattle.tam_world.specs.Worlds.{World, Effect, Delivery, Went, Printed, Faulted, Fault, Second_store, Outside_cells, its_code, has_word, has_entered, fired}
use Rattle.tam_world.specs.Worlds.{delivered, opening, argument_message}
use Rattle.tam_msgs.specs.Runs.{choice, End, Quiet, Double_write, Out_of_range, Frames_full, Cells_full, Budget_spent, Outcome, Next, Ended, run_from, Report}
use Rattle.tam_msgs.specs.Runs.{text_of}
use Rattle.tam_msgs.specs.declared.choice.Choice.{Choice}
use Rattle.tam_msgs.specs.declared.choice.Choice.TheVariants.{Quiet as Choose_quiet, Run as Choose_run, Deliver as Choose_delivery}
use Rattle.tam_msgs.specs.declared.item.Item.{Item}

-- the state of a run
pub record GraphState : Type 0 where
  pub world : World
  pub ready : List (ℕ × ℕ)  -- activation and node, first in first out
  pub pending : List Message
  pub order : List Item
  pub printed : List (ℕ × ℕ)
  pub events : ℕ

-- a vertex may fire: it isn't an inlet, its block was entered and its operands have words
abbrev pub is_enabled : Graph → World → ℕ → ℕ → Bool
is_enabled g w i x =
    elim (fires (kind_at (its_code g w i) x)) [
      | false ↦ false
      | true ↦ elim (has_entered w i (block_at (its_code g w i) x)) [
        | false ↦ false
        | true ↦ all_of (has_word w i) (operands_of (its_code g w i) (kind_at (its_code g w i) x))
      ]
    ]

-- the vertices that may fire after an event and might not before it, rising
abbrev pub joins_at : Graph → World → World → ℕ → List (ℕ × ℕ)
joins_at g before after i =
    map (λ x. (
      i,
      x,
    )) (filter (λ x. elim (is_enabled g after i x) [ false ↦ false | true ↦ not (is_enabled g before i x) ]) (node_numbers (its_code g after i)))

-- the same of all activations
abbrev pub joins : Graph → World → World → List (ℕ × ℕ)
joins g before after = flat_map (joins_at g before after) (below (length after.activations))

-- the state after an event with this effect
abbrev pub after_effect : Graph → GraphState → Effect → GraphState
after_effect g s e = record s { world = e.world; ready = s.ready ++ joins g s.world e.world; pending = s.pending ++ e.sends }

-- the vertex that became ready first fires
abbrev pub fired_first : Graph → GraphState → List (ℕ × ℕ) → Outcome GraphState
fired_first g s [] = Ended Quiet s
fired_first g s (v ∷ rest) = Next (after_effect g (record s { ready = rest }) (fired g s.world v.0 v.1))

-- a fault ends the run
abbrev pub end_of : Fault → End
end_of (Second_store s t) = Double_write s t
end_of (Outside_cells s i n) = Out_of_range s i n

-- the state after a delivery
abbrev pub after_delivery : Graph → GraphState → Delivery → Outcome GraphState
after_delivery g s (Went e) = Next (after_effect g s e)
after_delivery g s (Printed k v) = Next (record s { printed = s.printed ++ (k, v) ∷ [] })
after_delivery g s (Faulted f) = Ended (end_of f) s

-- ---- live activations

-- node x of activation i is ready
abbrev pub stands_ready : GraphState → ℕ → ℕ → Bool
stands_ready s i x = any_of (λ r. (r.0 == i) && (r.1 == x)) s.ready

-- it has fired: it might, and isn't ready any more
abbrev pub has_fired : Graph → GraphState → ℕ → ℕ → Bool
has_fired g s i x = elim (is_enabled g s.world i x) [ true ↦ not (stands_ready s i x) | false ↦ false ]

-- an inlet is done when it has its value, and any other vertex when it has fired
abbrev pub is_vertex_done : Graph → GraphState → ℕ → Vertex → Bool
is_vertex_done g s i v = elim v.inlet [ true ↦ has_word s.world i v.node | false ↦ has_fired g s i v.node ]

-- the vertices of node x are done, or its block wasn't entered
abbrev pub is_node_done : Graph → GraphState → ℕ → ℕ → Bool
is_node_done g s i x = elim (has_entered s.world i (block_at (its_code g s.world i) x)) [
  | true ↦ all_of (is_vertex_done g s i) (vertices_of x (kind_at (its_code g s.world i) x))
  | false ↦ true
]

-- activation i is given back: each vertex of each block that it has entered is done
abbrev pub is_given_back : Graph → GraphState → ℕ → Bool
is_given_back g s i = all_of (is_node_done g s i) (node_numbers (its_code g s.world i))

-- how many activations are live, which is as long as they aren't given back
abbrev pub live_activations : Graph → GraphState → ℕ
live_activations g s = count_by (λ i. not (is_given_back g s i)) (below (length s.world.activations))

-- ---- deliveries

-- an activation is refused where as many are live as may be, and cells that are more than may be
abbrev pub refusal : Graph → Limits → GraphState → Message → List End
refusal g limits s (Begin c f x) = elim (live_activations g s == limits.frames) [ true ↦ Frames_full limits.frames ∷ [] | false ↦ [] ]
refusal g limits s (Make n f x) =
    elim (nat_lt limits.cells (cells_used s.world.arrays + n)) [ true ↦ Cells_full (cells_used s.world.arrays) n ∷ [] | false ↦ [] ]
refusal g limits s _ = []

-- the delivery, unless the limits refuse it
abbrev pub delivered_unless : Graph → GraphState → Message → List End → Outcome GraphState
delivered_unless g s m [] = after_delivery g s (delivered s.world m)
delivered_unless g s m (e ∷ more) = Ended e s

-- the message at place k is delivered
abbrev pub delivered_at : Graph → Limits → GraphState → ℕ → Option Message → Outcome GraphState
delivered_at g limits s k None = Ended Quiet s
delivered_at g limits s k (Some m) = delivered_unless g (record s { pending = without_place k s.pending }) m (refusal g limits s m)

-- an event is made, and its item of the order is used
abbrev pub counted : GraphState → List Item → GraphState
counted s rest = record s { order = rest; events = s.events + 1 }

-- what was chosen is done, unless the budget is spent
abbrev pub chosen : Graph → Limits → GraphState → Choice × List Item → Outcome GraphState
chosen g limits s (Choose_quiet, rest) = Ended Quiet s
chosen g limits s (
  Choose_run,
  rest,
) = elim (s.events == limits.budget) [ true ↦ Ended (Budget_spent s.events) s | false ↦ fired_first g (counted s rest) s.ready ]
chosen g limits s (
  Choose_delivery k,
  rest,
) = elim (s.events == limits.budget) [ true ↦ Ended (Budget_spent s.events) s | false ↦ delivered_at g limits (counted s rest) k (slice_get s.pending k) ]

-- something is ready
abbrev pub some_ready : List (ℕ × ℕ) → Bool
some_ready [] = false
some_ready (v ∷ vs) = true

-- one event, or the end of the run
abbrev pub graph_step : Graph → Limits → GraphState → Outcome GraphState
graph_step g limits s = chosen g limits s (choice s.order (some_ready s.ready) (length s.pending))

-- before the root
abbrev pub nothing_begun : World
nothing_begun = record { activations = []; arrays = []; makers = [] }

-- the root has begun, and the arguments are pending
abbrev pub graph_opening : Graph → List ℕ → List Item → GraphState
graph_opening g args order = record {
  world = opening g;
  ready = joins g nothing_begun (opening g);
  pending = flat_map (argument_message g) (zip (below (length args)) args);
  order = order;
  printed = [];
  events = 0;
}

-- what the text tells of a run
abbrev pub graph_report : Graph → End × GraphState → Report
graph_report g e = record {
  printed = (e.1).printed;
  how = e.0;
  results = results_of (code_of g g.main);
  events = (e.1).events;
  activations = length (e.1).world.activations;
  cells = cells_used (e.1).world.arrays;
}

-- the report of the run of a graph
abbrev pub graph_told : Graph → List ℕ → List Item → Limits → Report
graph_told g args order limits = graph_report g (run_from (graph_step g limits) limits.budget (graph_opening g args order))

-- the text of the run of a graph
unfoldable pub graph_text : Graph → List ℕ → List Item → Limits → List ℕ
graph_text g args order limits = text_of (graph_told g args order limits)
