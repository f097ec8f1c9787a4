-- What a run of a graph tells from a state on.
use Rattle.std.specs.Prelude.{ℕ, ◌≡◌, List, [], None, length}
use Rattle.tam_graph.specs.Graphs.{Graph, code_of, results_of}
use Rattle.tam_istr.specs.Cells.{cells_used}
use Rattle.tam_msgs.specs.declared.counts.Counts.{Counts}
use Rattle.tam_msgs.specs.declared.item.Item.{Item}
use Rattle.tam_msgs.specs.declared.limits.Limits.{Limits}
use Rattle.tam_eval.specs.GraphRuns.{GraphState, graph_step}
use Rattle.tam_eval.specs.Events.{EvalRun, state_with}
use Rattle.tam_run.specs.Accounts.{Account}
use Rattle.tam_run.specs.Telling.{Run, Tells, Stand, stand_in}

-- what a state has counted
abbrev pub graph_counts : GraphState → Counts
graph_counts s = record { events = s.events; activations = length s.world.activations; cells = cells_used s.world.arrays }

-- the run of a graph within limits
abbrev pub graph_run : Graph → Limits → Run GraphState
graph_run g limits = record {
  step = graph_step g limits;
  budget = limits.budget;
  results = results_of (code_of g g.main);
  printed = λ s. s.printed;
  counts = graph_counts;
  machine = λ s. None;
}

-- where it stands, whatever is left of the order list and whatever was printed
abbrev pub graph_stand : EvalRun → Stand
graph_stand run = stand_in (graph_run run.graph run.limits) (state_with run.state [] [])

-- it goes on, and under this order list and behind these results it tells this account
pub record GraphTells (run : EvalRun) (order : List Item) (printed : List (ℕ × ℕ)) (a : Account) : Type 0 where
  pub going : run.stopped ≡ None
  pub tells : Tells (graph_run run.graph run.limits) (state_with run.state order printed) a
