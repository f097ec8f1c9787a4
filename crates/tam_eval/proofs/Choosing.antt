-- What a step does, by what was chosen.
use Rattle.std.proofs.Common.{◌≡◌, ◌∙◌, ℕ, Bool, false, not, ◌==◌, List, [], ◌∷◌, length, refl, ap, arith, sym, subst, None, Result, Ok, Err}
use Rattle.std.specs.Prelude.{slice_get}
use Rattle.tam_word.proofs.Tests.{differs-number}
use Rattle.tam_msgs.specs.declared.limits.Limits.{Limits}
use Rattle.tam_msgs.specs.declared.item.Item.{Item}
use Rattle.tam_msgs.specs.declared.step.Step.{Step}
use Rattle.tam_msgs.specs.declared.step.Step.TheVariants.{Ran, Delivered, Printed, Quiet as Step_quiet}
use Rattle.tam_msgs.specs.declared.stop.Stop.{Stop}
use Rattle.tam_msgs.specs.declared.choice.Choice.{Choice}
use Rattle.tam_msgs.specs.declared.choice.Choice.TheVariants.{Run as Choose_run, Deliver as Choose_delivery}
use Rattle.tam_msgs.specs.Runs.{choice}
use Rattle.tam_graph.specs.Graphs.{Graph}
use Rattle.tam_eval.specs.GraphRuns.{some_ready, chosen, counted, fired_first, delivered_at, graph_step}
use Rattle.tam_eval.specs.Machines.{EvalState}
use Rattle.tam_eval.specs.Events.{EvalRun, state_with, IsOutcome, IsRun, IsDelivery, IsAnswerOf, next_choice, LeavesAtQuiet, IsEvent, stop_of}

-- something is ready where the list isn't empty
pub ready-test : (xs : List (ℕ × ℕ)) → not (length xs == 0) ≡ some_ready xs
ready-test [] = refl
ready-test (x ∷ xs) = ap not (differs-number (length (x ∷ xs)) 0 (λ e. absurd (omega arith)))

module _ (g : Graph) (limits : Limits) (s : EvalState) (order order' : List Item) (printed : List (ℕ × ℕ)) where
  -- what is ready runs
  pub step-run : choice order (some_ready s.ready) (length s.pending) ≡ (Choose_run, order') → (s.events == limits.budget) ≡ false
      → graph_step g limits (state_with s order printed) ≡ fired_first g (counted (state_with s order printed) order') s.ready
  step-run choice_is unspent = rw (choice_is, chosen, unspent) refl

  -- a message is delivered
  pub step-deliver : (k : ℕ) → choice order (some_ready s.ready) (length s.pending) ≡ (Choose_delivery k, order') → (s.events == limits.budget) ≡ false
      → graph_step g limits (state_with s order printed) ≡ delivered_at g limits (counted (state_with s order printed) order') k (slice_get s.pending k)
  step-deliver k choice_is unspent = rw (choice_is, chosen, unspent) refl

-- where a vertex fired, nothing is said of quiet
pub run-goes : (old new : EvalState) (order order' : List Item) (result : Result Step Stop) → IsRun result → LeavesAtQuiet old new order order' result
run-goes old new order order' (Ok Step_quiet) goes = absurd goes
run-goes old new order order' (Ok Ran) goes = tt
run-goes old new order order' (Ok Delivered) goes = tt
run-goes old new order order' (Ok (Printed k w)) goes = tt
run-goes old new order order' (Err stop) goes = tt

-- nor where a message was delivered
pub delivery-goes : (old new : EvalState) (order order' : List Item) (result : Result Step Stop) → IsDelivery result → LeavesAtQuiet old new order order' result
delivery-goes old new order order' (Ok Step_quiet) goes = absurd goes
delivery-goes old new order order' (Ok Ran) goes = tt
delivery-goes old new order order' (Ok Delivered) goes = tt
delivery-goes old new order order' (Ok (Printed k w)) goes = tt
delivery-goes old new order order' (Err stop) goes = tt

-- one event of a run that wasn't stopped
pub first-event : (run old new : EvalRun) (order order' : List Item) (result : Result Step Stop) → run ≡ old → run.stopped ≡ None
    → ((printed : List (ℕ × ℕ)) → IsOutcome (graph_step run.graph run.limits (state_with run.state order printed)) new.state order' printed result)
    → new.stopped ≡ stop_of result → LeavesAtQuiet run.state new.state order order' result
    → IsAnswerOf (next_choice run.state order) result → IsEvent old new order order' result old.stopped
first-event run old new order order' result is unstopped outcome stop quiet answer =
    subst (λ (r : EvalRun). IsEvent r new order order' result r.stopped) is
    (subst (IsEvent run new order order' result) (sym unstopped) (outcome, stop, quiet, answer))

-- what was chosen is what the definition chooses, where the tests are those of the lists
pub chosen-is : (s : EvalState) (order order' : List Item) (c : Choice) (empty : Bool) (len count : ℕ) → empty ≡ (len == 0) → len ≡ length s.ready
    → count ≡ length s.pending → (c, order') ≡ choice order (not empty) count → choice order (some_ready s.ready) (length s.pending) ≡ (c, order')
chosen-is s order order' c empty len count empty_is len_is count_is choice_is =
    let ready_is : not empty ≡ some_ready s.ready = ap not (empty_is ∙ ap (λ (n : ℕ). n == 0) len_is) ∙ ready-test s.ready in
    sym (choice_is ∙ ap (λ (b : Bool). choice order b count) ready_is ∙ ap (λ (n : ℕ). choice order (some_ready s.ready) n) count_is)
