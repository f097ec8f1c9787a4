-- Each step of a run of a graph follows the state before it.
use Rattle.std.proofs.Common.{◌≡◌, ◌≢◌, ℕ, Bool, true, false, ◌==◌, List, [], ◌∷◌, refl, sym, length, Some, None, slice_get}
use Rattle.std.specs.Prelude.{Option}
use Rattle.std.proofs.lemmas.List.{append-nil}
use Rattle.tam_word.proofs.Tests.{number-differs}
use Rattle.tam_word.specs.Lists.{without_place}
use Rattle.tam_graph.specs.Graphs.{Graph}
use Rattle.tam_msgs.specs.declared.limits.Limits.{Limits}
use Rattle.tam_msgs.specs.declared.item.Item.{Item}
use Rattle.tam_msgs.specs.declared.message.Message.{Message}
use Rattle.tam_msgs.specs.declared.choice.Choice.{Choice}
use Rattle.tam_msgs.specs.declared.choice.Choice.TheVariants.{Quiet as Choose_quiet, Run as Choose_run, Deliver as Choose_delivery}
use Rattle.tam_msgs.specs.Runs.{End, Budget_spent, Ended, choice}
use Rattle.tam_world.specs.Worlds.{Delivery, Went, Printed, Faulted, delivered}
use Rattle.tam_eval.specs.GraphRuns.{GraphState, graph_step, chosen, counted, fired_first, after_delivery, delivered_unless, delivered_at, some_ready}
use Rattle.tam_run.specs.GraphTelling.{graph_run}
use Rattle.tam_run.proofs.RunSteps.{Follows}

module _ (g : Graph) (limits : Limits) (s : GraphState) (room : s.events ≢ limits.budget) (rest : List Item) where
  -- the first of the ready vertices fires
  firing-follows : (ready : List (ℕ × ℕ)) → Follows (graph_run g limits) s (fired_first g (counted s rest) ready)
  firing-follows [] = refl
  firing-follows (v ∷ more) = record { more = []; printed = sym (append-nil s.printed); counted = refl; room = room }

  -- a delivery is made
  went-follows : (pending : List Message) (d : Delivery)
      → Follows (graph_run g limits) s (after_delivery g (record (counted s rest) { pending = pending }) d)
  went-follows pending (Went e) = record { more = []; printed = sym (append-nil s.printed); counted = refl; room = room }
  went-follows pending (Printed k w) = record { more = (k, w) ∷ []; printed = refl; counted = refl; room = room }
  went-follows pending (Faulted f) = refl

  -- a delivery is made, or refused
  refusal-follows : (pending : List Message) (m : Message) (ends : List End)
      → Follows (graph_run g limits) s (delivered_unless g (record (counted s rest) { pending = pending }) m ends)
  refusal-follows pending m [] = went-follows pending (delivered s.world m)
  refusal-follows pending m (e ∷ more) = refl

  -- the message at a place is delivered
  delivery-follows : (k : ℕ) (o : Option Message) → Follows (graph_run g limits) s (delivered_at g limits (counted s rest) k o)
  delivery-follows k None = refl
  delivery-follows k (Some m) = refusal-follows (without_place k s.pending) m _

-- what was chosen is done
chosen-follows : (g : Graph) (limits : Limits) (s : GraphState) (c : Choice × List Item) → Follows (graph_run g limits) s (chosen g limits s c)
chosen-follows g limits s (Choose_quiet, rest) = refl
chosen-follows g limits s (Choose_run, rest) = go (s.events == limits.budget) refl
  where
    go : (b : Bool) → (s.events == limits.budget) ≡ b
        → Follows (graph_run g limits) s (elim b [ true ↦ Ended (Budget_spent s.events) s | false ↦ fired_first g (counted s rest) s.ready ])
    go true e = refl
    go false e = firing-follows g limits s (number-differs s.events limits.budget e) rest s.ready
chosen-follows g limits s (Choose_delivery k, rest) = go (s.events == limits.budget) refl
  where
    go : (b : Bool) → (s.events == limits.budget) ≡ b
        → Follows (graph_run g limits) s (elim b [
          | true ↦ Ended (Budget_spent s.events) s
          | false ↦ delivered_at g limits (counted s rest) k (slice_get s.pending k)
        ])
    go true e = refl
    go false e = delivery-follows g limits s (number-differs s.events limits.budget e) rest k (slice_get s.pending k)

-- each step follows the state before it
pub graph-follows : (g : Graph) (limits : Limits) (s : GraphState) → Follows (graph_run g limits) s (graph_step g limits s)
graph-follows g limits s = chosen-follows g limits s (choice s.order (some_ready s.ready) (length s.pending))
