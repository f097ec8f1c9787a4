-- A graph's state and the state of a journal over one class per vertex that it follows.
use Rattle.std.proofs.Common.{◌≡◌, ℕ, ◌<◌, Bool, true, false, List, refl, sym, true≢false}
use Rattle.std.proofs.Common.{length, Some, None}
use Rattle.tam_word.specs.Lists.{has}
use Rattle.tam_word.proofs.Members.{In, Distinct, all-in, in-all}
use Rattle.tam_graph.specs.Graphs.{Graph, kind_at, block_at, operands_of, fires, has_value}
use Rattle.tam_split.proofs.Firers.{Firer, is_inner}
use Rattle.tam_msgs.specs.declared.message.Message.{Message}
use Rattle.tam_msgs.specs.declared.item.Item.{Item}
use Rattle.tam_istr.specs.Cells.{Empty, Reader}
use Rattle.tam_world.specs.Worlds.{World, its_code, has_word, has_entered}
use Rattle.tam_flow.specs.Journals.{State, has_run, on_their_way}
use Rattle.tam_flow.specs.Reached.{IsThere, cell_at}
use Rattle.tam_flow.proofs.SingleRuns.{InletAt}
use Rattle.tam_flow.proofs.Moves.{IsForInlet, Fits}
use Rattle.tam_eval.specs.GraphRuns.{GraphState, is_enabled}

-- ---- what may fire

-- the parts of the test
pub record Enabled (g : Graph) (w : World) (i x : ℕ) : Type 0 where
  pub fires : fires (kind_at (its_code g w i) x) ≡ true
  pub entered : has_entered w i (block_at (its_code g w i) x) ≡ true
  pub words : (a : ℕ) → In a (operands_of (its_code g w i) (kind_at (its_code g w i) x)) → has_word w i a ≡ true

-- where the test passes they hold
pub is_enabled-parts : (g : Graph) (w : World) (i x : ℕ) → is_enabled g w i x ≡ true → Enabled g w i x
is_enabled-parts g w i x h = go (fires (kind_at (its_code g w i) x)) refl (has_entered w i (block_at (its_code g w i) x)) refl
  where
    go : (s : Bool) → fires (kind_at (its_code g w i) x) ≡ s → (t : Bool) → has_entered w i (block_at (its_code g w i) x) ≡ t → Enabled g w i x
    go false p t q = absurd (true≢false (sym (rw (is_enabled, p) at h)))
    go true p false q = absurd (true≢false (sym (rw (is_enabled, p, q) at h)))
    go true p true q = record {
      fires = p;
      entered = q;
      words = all-in (has_word w i) (operands_of (its_code g w i) (kind_at (its_code g w i) x)) (rw (is_enabled, p, q) at h);
    }

-- and the other way round
pub parts-is_enabled : (g : Graph) (w : World) (i x : ℕ) → Enabled g w i x → is_enabled g w i x ≡ true
parts-is_enabled g w i x h =
    rw (is_enabled, h.fires, h.entered) (in-all (has_word w i) (operands_of (its_code g w i) (kind_at (its_code g w i) x)) h.words)

-- ---- the relation

-- the runs, by words and blocks: a vertex that fired was enabled; one that gives its node's own value ran where the node has a word;
-- an inlet ran where its block is entered and its node has a word
pub record RunsStand (g : Graph) (s : State) : Type 0 where
  pub ran_there : (i b k : ℕ) → has_run s i b k ≡ true → IsThere s.world i
  pub firer_ran : (i b k x : ℕ) → IsThere s.world i → Firer (its_code g s.world i) b k x → has_run s i b k ≡ true → is_enabled g s.world i x ≡ true
  pub inner_ran : (i b k x : ℕ) → IsThere s.world i → Firer (its_code g s.world i) b k x → is_inner (kind_at (its_code g s.world i) x) ≡ true
      → has_run s i b k ≡ true → has_word s.world i x ≡ true
  pub inner_word : (i b k x : ℕ) → IsThere s.world i → Firer (its_code g s.world i) b k x → is_inner (kind_at (its_code g s.world i) x) ≡ true
      → has_word s.world i x ≡ true → has_run s i b k ≡ true
  pub inlet_ran : (i b k x : ℕ) → IsThere s.world i → InletAt (its_code g s.world i) b k x → has_run s i b k ≡ true
      → (has_entered s.world i b ≡ true) × (has_word s.world i x ≡ true)
  pub inlet_word : (i b k x : ℕ) → IsThere s.world i → InletAt (its_code g s.world i) b k x → has_entered s.world i b ≡ true
      → has_word s.world i x ≡ true → has_run s i b k ≡ true
  pub words_there : (i x : ℕ) → has_word s.world i x ≡ true → IsThere s.world i
  pub words_values : (i x : ℕ) → has_word s.world i x ≡ true → has_value (kind_at (its_code g s.world i) x) ≡ true

-- the ready list: the nodes that may fire and haven't, each once
pub record ReadyStands (g : Graph) (s : State) (ready : List (ℕ × ℕ)) : Type 0 where
  pub ready_enabled : (i x : ℕ) → In (i, x) ready → IsThere s.world i × (is_enabled g s.world i x ≡ true)
  pub ready_unrun : (i x b k : ℕ) → In (i, x) ready → Firer (its_code g s.world i) b k x → has_run s i b k ≡ false
  pub enabled_ready : (i x b k : ℕ) → IsThere s.world i → is_enabled g s.world i x ≡ true → Firer (its_code g s.world i) b k x
      → has_run s i b k ≡ false → In (i, x) ready
  pub once : Distinct ready

-- messages on their way and waiting readers are for inlets, and what arrived was sent
pub record MessagesFit (g : Graph) (s : State) : Type 0 where
  pub fit : (m : Message) → In m (on_their_way s) → Fits g s.world m
  pub readers : (a j : ℕ) (rs : List Reader) (r : Reader) → cell_at s.world a j ≡ Some (Empty rs) → In r rs → IsForInlet g s.world r.0 r.1
  pub arrived_sent : (n : ℕ) → has s.arrived n ≡ true → n < length s.sent

-- the graph's state that goes with a journal's state and a ready list: the world, the messages on their way and the printed words are the journal's
abbrev pub graph_of : State → List (ℕ × ℕ) → List Item → ℕ → GraphState
graph_of s ready order events =
    record { world = s.world; ready = ready; pending = on_their_way s; order = order; printed = s.printed; events = events }

-- a graph's state with this ready list follows the journal's state
pub record Follows (g : Graph) (ready : List (ℕ × ℕ)) (s : State) : Type 0 where
  pub whole : s.fault ≡ None
  pub runs : RunsStand g s
  pub stands : ReadyStands g s ready
  pub messages : MessagesFit g s
