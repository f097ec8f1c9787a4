-- What a step does, by what was chosen.
use Rattle.std.proofs.Common.{◌≡◌, ◌∙◌, ℕ, Bool, false, ◌==◌, List, length, refl, ap, sym, subst, Some, None, Result}
use Rattle.std.specs.Prelude.{slice_get}
use Rattle.tam_msgs.specs.declared.limits.Limits.{Limits}
use Rattle.tam_msgs.specs.declared.item.Item.{Item}
use Rattle.tam_msgs.specs.declared.step.Step.{Step}
use Rattle.tam_msgs.specs.declared.choice.Choice.{Choice}
use Rattle.tam_msgs.specs.declared.choice.Choice.TheVariants.{Run as Choose_run, Deliver as Choose_delivery}
use Rattle.tam_msgs.specs.Runs.{choice}
use Rattle.frame_tables.specs.FrameTables.{FrameTable, is_ready, next_thread}
use Rattle.tl0_code.specs.declared.instr.Instr.{Instr}
use Rattle.tl0_code.specs.ThreadCode.{Program, thread_at}
use Rattle.tl0_code.specs.Machines.{Machine, Giving, done_thread}
use Rattle.tl0_code.specs.ThreadRuns.{text_at, as_outcome, run_next, delivered_at, chosen, counted, thread_step}
use Rattle.tl0_machine.specs.declared.stop0.Stop0.{Stop0}
use Rattle.tl0_machine.specs.ThreadStates.{AreMarked}
use Rattle.tl0_machine.specs.ThreadEvents.{ThreadRun, IsStep, IsEvent, IsAnswerOf, next_choice, LeavesAtQuiet, stop_of}

-- a pair of two parts
pair-is : {A B : Type 0} (p : A × B) (a : A) (b : B) → a ≡ p.0 → b ≡ p.1 → p ≡ (a, b)
pair-is p a b first second = rw (first, second) refl

module _ (p : Program) (m : Machine) (f t : ℕ) (table : FrameTable) (instrs : List Instr) where
  -- what comes of the next thread is what comes of its instructions
  pub run_next-is : Some (f, t) ≡ (next_thread m.table).0 → table ≡ (next_thread m.table).1 → instrs ≡ (thread_at (text_at p m f) t).instrs
      → run_next Giving p m ≡ as_outcome (done_thread Giving (record m { table = table }) f instrs) m
  run_next-is next behind own = rw (pair-is (next_thread m.table) (Some (f, t)) table next behind, own) refl

module _ (p : Program) (limits : Limits) (m : Machine) (order : List Item) (unspent : (m.events == limits.budget) ≡ false) where
  -- a thread runs
  pub step-run : choice m.order (is_ready m.table) (length m.pending) ≡ (Choose_run, order) → thread_step p limits m ≡ run_next Giving p (counted m order)
  step-run is = rw (is, chosen, unspent) refl

  -- a message is delivered
  pub step-deliver : (k : ℕ) → choice m.order (is_ready m.table) (length m.pending) ≡ (Choose_delivery k, order)
      → thread_step p limits m ≡ delivered_at Giving p limits (counted m order) k (slice_get m.pending k)
  step-deliver k is = rw (is, chosen, unspent) refl

-- what was chosen is what the definition chooses
pub chosen-is : (m : Machine) (ready : Bool) (count : ℕ) → ready ≡ is_ready m.table → count ≡ length m.pending → (chosen : Choice × List Item)
    → chosen ≡ choice m.order ready count → choice m.order (is_ready m.table) (length m.pending) ≡ chosen
chosen-is m ready count ready_is count_is chosen is =
    sym (is ∙ ap (λ (b : Bool). choice m.order b count) ready_is ∙ ap (choice m.order (is_ready m.table)) count_is)

-- one event of a run that wasn't stopped
pub first-event : (run old new : ThreadRun) (order order' : List Item) (result : Result Step Stop0) → run ≡ old → run.stopped ≡ None
    → ((printed : List (ℕ × ℕ)) → AreMarked run.state.marks printed → IsStep run.program run.limits run.state new.state order order' printed result)
    → new.stopped ≡ stop_of result → LeavesAtQuiet run.state new.state order order' result
    → IsAnswerOf (next_choice run.state order) result → IsEvent old new order order' result old.stopped
first-event run old new order order' result is unstopped outcome stop quiet answer =
    subst (λ (r : ThreadRun). IsEvent r new order order' result r.stopped) is
    (subst (IsEvent run new order order' result) (sym unstopped) (outcome, stop, quiet, answer))
