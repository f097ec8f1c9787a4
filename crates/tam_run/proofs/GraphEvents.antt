-- An event of the evaluator is an event of the run of its graph.
use Rattle.std.proofs.Common.{◌≡◌, ℕ, List, [], ◌∷◌, ◌++◌, refl, sym, ◌∙◌, ap, ap₂, subst}
use Rattle.std.specs.Prelude.{Option, None, Some, Result, Ok, Err}
use Rattle.tam_graph.specs.Graphs.{Graph}
use Rattle.tam_msgs.specs.declared.limits.Limits.{Limits}
use Rattle.tam_msgs.specs.declared.item.Item.{Item}
use Rattle.tam_msgs.specs.declared.step.Step.{Step}
use Rattle.tam_msgs.specs.declared.step.Step.TheVariants.{Ran, Delivered, Printed, Quiet as Step_quiet}
use Rattle.tam_msgs.specs.declared.stop.Stop.{Stop}
use Rattle.tam_msgs.specs.declared.stop.Stop.TheVariants.{DoubleWrite, OutOfRange, FramesFull, CellsFull, BudgetSpent, NoMemory}
use Rattle.tam_msgs.specs.Runs.{End, Quiet, Double_write, Out_of_range, Frames_full, Cells_full, Budget_spent, Outcome, Next, Ended}
use Rattle.tam_eval.specs.GraphRuns.{GraphState, graph_step, graph_opening, graph_told}
use Rattle.tam_eval.specs.Machines.{EvalState}
use Rattle.tam_eval.specs.Events.{EvalRun, IsEvent, IsOutcome, state_with, stop_of, opening_state}
use Rattle.tam_run.specs.declared.halt.Halt.{Halt}
use Rattle.tam_run.specs.declared.halt.Halt.TheVariants as halt
use Rattle.tam_run.specs.Accounts.{Account, plain_account}
use Rattle.tam_run.specs.Ends.{end_of_stop}
use Rattle.tam_run.specs.Telling.{Run, GoesOn, EndsSo, Comes, TellsMore, printed_behind}
use Rattle.tam_run.specs.GraphTelling.{graph_run, graph_stand, GraphTells}
use Rattle.tam_run.proofs.RunSteps.{tells-more, goes-on, ends-so, tells-whole}
use Rattle.tam_run.proofs.GraphSteps.{graph-follows}

-- the answer of the evaluator, as every level answers
abbrev pub widened : Result Step Stop → Result Step Halt
widened (Ok step) = Ok step
widened (Err stop) = Err (halt.Stop stop)

-- what the evaluator ensures of an event
pub record IsEvalEvent (old new : EvalRun) (order order' : List Item) (result : Result Step Stop) : Type 0 where
  pub event : IsEvent old new order order' result old.stopped
  pub graph : new.graph ≡ old.graph
  pub limits : new.limits ≡ old.limits

-- what comes of it is told, and what was printed behind it is a prefix of that
abbrev pub GraphCame : EvalRun → EvalRun → List Item → List (ℕ × ℕ) → Account → Result Step Stop → Type 0
GraphCame old new r printed a result =
    Comes (λ behind. GraphTells new r behind a) (graph_stand old) (graph_stand new) printed a (widened result)
    × TellsMore a (printed_behind printed (widened result))

module _ (o : Outcome GraphState) (s : EvalState) (r : List Item) (printed : List (ℕ × ℕ)) where
  -- a stop is told so
  stop-comes : (stop : Stop) (how : End) → end_of_stop stop ≡ Some how → IsOutcome o s r printed (Err stop) → o ≡ Ended how (state_with s r printed)
  stop-comes (DoubleWrite a b) how e h = let p : Double_write a b ≡ how = cc in h ∙ ap (λ k. Ended k (state_with s r printed)) p
  stop-comes (OutOfRange a i l) how e h = let p : Out_of_range a i l ≡ how = cc in h ∙ ap (λ k. Ended k (state_with s r printed)) p
  stop-comes (FramesFull n) how e h = let p : Frames_full n ≡ how = cc in h ∙ ap (λ k. Ended k (state_with s r printed)) p
  stop-comes (CellsFull u l) how e h = let p : Cells_full u l ≡ how = cc in h ∙ ap (λ k. Ended k (state_with s r printed)) p
  stop-comes (BudgetSpent n) how e h = let p : Budget_spent n ≡ how = cc in h ∙ ap (λ k. Ended k (state_with s r printed)) p
  stop-comes NoMemory how e h = absurd cc

-- the same run in another state
abbrev in_state : EvalRun → EvalState → Option Stop → EvalRun
in_state run s stopped = record { graph = run.graph; limits = run.limits; state = s; stopped = stopped }

module _ (old : EvalRun) (s : EvalState) (stopped : Option Stop) (q r : List Item) (printed : List (ℕ × ℕ)) (a : Account)
    (tells : GraphTells old q printed a) where
  -- the run
  abbrev its-run : Run GraphState
  its-run = graph_run old.graph old.limits

  -- its state before the event
  abbrev before : GraphState
  before = state_with old.state q printed

  -- a step goes on
  next-comes : (more : List (ℕ × ℕ)) → graph_step old.graph old.limits before ≡ Next (state_with s r more) → stopped ≡ None
      → GoesOn (GraphTells (in_state old s stopped) r more a) (graph_stand old) (graph_stand (in_state old s stopped)) × TellsMore a more
  next-comes more e none =
      let on = goes-on GraphState its-run (graph-follows old.graph old.limits) before (state_with s r more) a tells.tells e in (
        record { told = record { going = none; tells = on.told }; less = on.less },
        tells-more GraphState its-run (graph-follows old.graph old.limits) (state_with s r more) a on.told,
      )

  -- a step ends
  ended-comes : (how : End) → graph_step old.graph old.limits before ≡ Ended how (state_with s r printed)
      → EndsSo (graph_stand (in_state old s stopped)) printed a how
  ended-comes how e = ends-so GraphState its-run (graph-follows old.graph old.limits) before (state_with s r printed) how a tells.tells e

  -- what was printed before
  printed-before : TellsMore a printed
  printed-before = tells-more GraphState its-run (graph-follows old.graph old.limits) before a tells.tells

  -- what comes of a step
  outcome-comes : (result : Result Step Stop) → IsOutcome (graph_step old.graph old.limits before) s r printed result
      → stopped ≡ stop_of result → GraphCame old (in_state old s stopped) r printed a result
  outcome-comes (Ok Ran) h none = next-comes printed h none
  outcome-comes (Ok Delivered) h none = next-comes printed h none
  outcome-comes (Ok (Printed k w)) h none = next-comes (printed ++ (k, w) ∷ []) h none
  outcome-comes (Ok Step_quiet) h none = (ended-comes Quiet h, printed-before)
  outcome-comes (Err stop) h some = (λ how e. ended-comes how (stop-comes _ s r printed stop how e h), printed-before)

module _ (old new : EvalRun) (q r : List Item) (result : Result Step Stop) (is : IsEvalEvent old new q r result) where
  -- what comes of an event
  pub graph-came : (printed : List (ℕ × ℕ)) (a : Account) → GraphTells old q printed a → GraphCame old new r printed a result
  graph-came printed a tells =
      subst (λ n. GraphCame old n r printed a result) (sym same)
      (outcome-comes old new.state new.stopped q r printed a tells result (event.0 printed) event.1)
    where
      same : new ≡ in_state old new.state new.stopped
      same = ap₂ (λ g l. record { graph = g; limits = l; state = new.state; stopped = new.stopped }) is.graph is.limits

      event : IsEvent old new q r result None
      event = subst (IsEvent old new q r result) tells.going is.event

-- a run at its opening
abbrev pub opened : Graph → List ℕ → Limits → EvalRun
opened g args limits = record { graph = g; limits = limits; state = opening_state g args; stopped = None }

-- there the whole run is told
pub graph-opened : (g : Graph) (args : List ℕ) (order : List Item) (limits : Limits)
    → GraphTells (opened g args limits) order [] (plain_account (graph_told g args order limits))
graph-opened g args order limits = record { going = refl; tells = tells-whole GraphState (graph_run g limits) (graph_opening g args order) refl }
