-- The state after a node got a word, a block was entered, or a message was sent, as the evaluator makes it.
use Rattle.std.proofs.Common.{◌≡◌, ◌∙◌, ℕ, Bool, true, false, List, [], ◌∷◌, ◌++◌}
use Rattle.std.proofs.Common.{length, map, filter, refl, sym, ap, subst, Err, Result}
use Rattle.std.proofs.lemmas.List.{append-nil}
use Rattle.tam_msgs.specs.declared.limits.Limits.{Limits}
use Rattle.tam_msgs.specs.declared.item.Item.{Item}
use Rattle.tam_msgs.specs.declared.message.Message.{Message}
use Rattle.tam_msgs.specs.declared.message.Message.TheVariants.{Word as Carry}
use Rattle.tam_msgs.specs.declared.stop.Stop.{Stop}
use Rattle.tam_msgs.specs.declared.step.Step.{Step}
use Rattle.tam_msgs.specs.declared.stop.Stop.TheVariants.{DoubleWrite, OutOfRange, FramesFull, CellsFull, BudgetSpent, NoMemory}
use Rattle.tam_msgs.specs.Runs.{Outcome, Next, Ended}
use Rattle.tam_msgs.specs.Messages.{answers}
use Rattle.tam_istr.specs.CellAnswers.{reader_pair}
use Rattle.tam_graph.specs.Graphs.{Graph, code_of}
use Rattle.tam_world.specs.Worlds.{World, its_code, has_word, has_entered, got, entered, changes, sends_only}
use Rattle.tam_world.specs.Worlds.{Delivery, Went, Printed, Faulted, Fault, Second_store, Outside_cells, delivered}
use Rattle.tam_world.specs.Takers.{takers_of, firers_in, takers_now, firers_now, starters_of}
use Rattle.tam_world.specs.Effects.{with_begun, effect_in, delivery_in, fault_of, LeavesWorld, GoesWell}
use Rattle.tam_world.specs.declared.delivery.Delivery.{Delivery as Answer}
use Rattle.tam_world.specs.declared.delivery.Delivery.TheVariants.{Went as Has_gone, Begins, Answered, Printed as Is_printed, Faulted as Has_fault}
use Rattle.tam_eval.specs.GraphRuns.{GraphState, joins, is_enabled, refusal, delivered_unless, end_of, after_delivery}
use Rattle.tam_eval.specs.Machines.{EvalState}
use Rattle.tam_eval.specs.Effects.{effected}
use Rattle.tam_eval.specs.Events.{state_with, IsOutcome, IsStopOf, RefusedSo, GoesOn}
use Rattle.tam_eval.proofs.Joins.{joins-got_any, joins-entered_any, joins-unchanged, joins-begun_starters}

module _ (g : Graph) (s : EvalState) where
  -- a node got a word
  pub state-got : (i y v : ℕ) (world : World) (ready : List (ℕ × ℕ)) → world ≡ got s.world i y v
      → ready ≡ s.ready ++ map (λ x. (i, x)) (filter (is_enabled g world i) (takers_now g s.world i y))
      → record s { world = world; ready = ready } ≡ effected g s (changes (got s.world i y v))
  state-got i y v world ready changed more = rw (more, changed, joins-got_any g s.world i y v, append-nil s.pending) refl

  -- a block was entered
  pub state-entered : (i b : ℕ) (world : World) (ready : List (ℕ × ℕ)) → world ≡ entered s.world i b
      → ready ≡ s.ready ++ map (λ x. (i, x)) (filter (is_enabled g world i) (firers_now g s.world i b))
      → record s { world = world; ready = ready } ≡ effected g s (changes (entered s.world i b))
  state-entered i b world ready changed more = rw (more, changed, joins-entered_any g s.world i b, append-nil s.pending) refl

  -- it had one before
  pub ready-had : (i y : ℕ) (test : ℕ → Bool) → has_word s.world i y ≡ true → s.ready ≡ s.ready ++ map (λ x. (i, x)) (filter test (takers_now g s.world i y))
  ready-had i y test had = rw (takers_now, had) (sym (append-nil s.ready))

  -- it was so before
  pub ready-in : (i b : ℕ) (test : ℕ → Bool) → has_entered s.world i b ≡ true → s.ready ≡ s.ready ++ map (λ x. (i, x)) (filter test (firers_now g s.world i b))
  ready-in i b test had = rw (firers_now, had) (sym (append-nil s.ready))

  -- it had none before
  pub takers-first : (i y : ℕ) → has_word s.world i y ≡ false → takers_now g s.world i y ≡ takers_of (its_code g s.world i) y
  takers-first i y had = rw (takers_now, had) refl

  -- it wasn't so before
  pub firers-first : (i b : ℕ) → has_entered s.world i b ≡ false → firers_now g s.world i b ≡ firers_in (its_code g s.world i) b
  firers-first i b had = rw (firers_now, had) refl

  -- messages were sent
  pub state-sent : (messages pending : List Message) → pending ≡ s.pending ++ messages
      → record s { pending = pending } ≡ effected g s (sends_only s.world messages)
  state-sent messages pending is = rw (is, joins-unchanged g s.world, append-nil s.ready) refl

  -- nothing was done
  pub state-same : s ≡ effected g s (changes s.world)
  state-same = rw (joins-unchanged g s.world, append-nil s.ready, append-nil s.pending) refl

  -- an activation began
  pub state-begun : (k f x number : ℕ) (world : World) (ready : List (ℕ × ℕ)) (pending : List Message)
      → world ≡ with_begun s.world k f x → number ≡ length s.world.activations
      → ready ≡ s.ready ++ map (λ z. (number, z)) (starters_of (code_of g k)) → pending ≡ s.pending ++ Carry f x number ∷ []
      → record s { world = world; ready = ready; pending = pending }
      ≡ effected g s (sends_only (with_begun s.world k f x) (Carry f x (length s.world.activations) ∷ []))
  state-begun k f x number world ready pending begins count more sent = rw (begins, more, sent, count, joins-begun_starters g s.world k f x) refl

-- ---- deliveries

-- which vertices become ready depends on activations alone
joins-alike : (g : Graph) (v w u : World) → v.activations ≡ w.activations → joins g v u ≡ joins g w u
joins-alike g v w u same = ap (λ (l : List _). joins g (record { activations = l; arrays = []; makers = [] }) u) same

-- what comes of a delivery that the world has made is what comes of the delivery
pub settled-same : (g : Graph) (s : GraphState) (w : World) (d : Answer) → w.activations ≡ s.world.activations → LeavesWorld s.world w d
    → after_delivery g (record s { world = w }) (delivery_in w d) ≡ after_delivery g s (delivery_in w d)
settled-same g s w (Is_printed k v) same left = ap (λ (u : World). after_delivery g (record s { world = u }) (Printed k v)) left
settled-same g s w (Has_fault f) same left = ap (λ (u : World). after_delivery g (record s { world = u }) (Faulted (fault_of f))) left
settled-same g s w (Has_gone e) same left = ap (λ (l : List (ℕ × ℕ)). Next (with_list l)) (joins-alike g w s.world (effect_in w e).world same)
  where
    with_list : List (ℕ × ℕ) → GraphState
    with_list l = record s { world = (effect_in w e).world; ready = s.ready ++ l; pending = s.pending ++ (effect_in w e).sends }
settled-same g s w (Begins c f) same left = ap (λ (l : List (ℕ × ℕ)). Next (with_list l)) (joins-alike g w s.world (with_begun w c f.activation f.node) same)
  where
    with_list : List (ℕ × ℕ) → GraphState
    with_list l = record s {
      world = with_begun w c f.activation f.node;
      ready = s.ready ++ l;
      pending = s.pending ++ Carry f.activation f.node (length w.activations) ∷ [];
    }
settled-same g s w (Answered v rs) same left = ap (λ (l : List (ℕ × ℕ)). Next (with_list l)) (joins-alike g w s.world w same)
  where
    with_list : List (ℕ × ℕ) → GraphState
    with_list l = record s { world = w; ready = s.ready ++ l; pending = s.pending ++ answers v (map reader_pair rs.items) }

-- memory is wanted only where the run would go on
goes-on : (g : Graph) (s : GraphState) (d : Delivery) → GoesWell d → GoesOn (after_delivery g s d)
goes-on g s (Went e) well = tt
goes-on g s (Printed k v) well = tt
goes-on g s (Faulted f) well = absurd well

-- a fault is told by its stop
pub faulted-so : (g : Graph) (s : EvalState) (f : Fault) (stop : Stop) (order : List Item) (printed : List (ℕ × ℕ)) → IsStopOf f stop
    → IsOutcome (Ended (end_of f) (state_with s order printed)) s order printed (Err stop)
faulted-so g s (Second_store a b) stop order printed is = rw is refl
faulted-so g s (Outside_cells a i n) stop order printed is = rw is refl

module _ (g : Graph) (limits : Limits) (s : EvalState) (m : Message) (order : List Item) (printed : List (ℕ × ℕ)) where
  -- what the limits refuse
  pub outcome-refused : (stop : Stop) → RefusedSo (refusal g limits (state_with s order printed) m) (Err stop)
      → IsOutcome (delivered_unless g (state_with s order printed) m (refusal g limits (state_with s order printed) m)) s order printed (Err stop)
  outcome-refused (FramesFull n) is = rw is refl
  outcome-refused (CellsFull used n) is = rw is refl
  outcome-refused (DoubleWrite a b) is = absurd is
  outcome-refused (OutOfRange a i n) is = absurd is
  outcome-refused (BudgetSpent n) is = absurd is
  outcome-refused NoMemory is = absurd is

  module _ (room : refusal g limits (state_with s order printed) m ≡ []) where
    -- what comes of a delivery that the world has made
    pub outcome-settled : (w : World) (d : Answer) (new : EvalState) (result : Result Step Stop) → w.activations ≡ s.world.activations
        → LeavesWorld s.world w d → delivery_in w d ≡ delivered s.world m
        → IsOutcome (after_delivery g (state_with (record s { world = w }) order printed) (delivery_in w d)) new order printed result
        → IsOutcome (delivered_unless g (state_with s order printed) m (refusal g limits (state_with s order printed) m)) new order printed result
    outcome-settled w d new result same left is settled = rw room (subst (λ (o : Outcome GraphState). IsOutcome o new order printed result)
        (settled-same g (state_with s order printed) w d same left ∙ ap (after_delivery g (state_with s order printed)) is) settled)

    -- memory was wanted
    pub outcome-wants : GoesWell (delivered s.world m)
        → GoesOn (delivered_unless g (state_with s order printed) m (refusal g limits (state_with s order printed) m))
    outcome-wants well = rw room (goes-on g (state_with s order printed) (delivered s.world m) well)
