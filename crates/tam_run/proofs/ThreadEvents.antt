-- An event of the machine of threads is an event of the run of its program.
use Rattle.std.proofs.Common.{◌≡◌, ℕ, List, [], ◌∷◌, ◌++◌, refl, sym, ◌∙◌, ap, ap₂, subst}
use Rattle.std.specs.Prelude.{Option, None, Some, Result, Ok, Err}
use Rattle.tam_msgs.specs.declared.item.Item.{Item}
use Rattle.tam_msgs.specs.declared.step.Step.{Step}
use Rattle.tam_msgs.specs.declared.step.Step.TheVariants.{Ran, Delivered, Printed, Quiet as Step_quiet}
use Rattle.tam_msgs.specs.declared.stop.Stop.{Stop}
use Rattle.tam_msgs.specs.declared.stop.Stop.TheVariants.{DoubleWrite, OutOfRange, FramesFull, CellsFull, BudgetSpent, NoMemory}
use Rattle.tam_msgs.specs.Runs.{End, Quiet, Double_write, Out_of_range, Frames_full, Cells_full, Budget_spent, Wild, WildCause, Outcome, Next, Ended}
use Rattle.tam_istr.specs.Cells.{Arrays, cells_used}
use Rattle.tl0_code.specs.Machines.{Machine}
use Rattle.tl0_code.specs.ThreadRuns.{thread_step}
use Rattle.tl0_machine.specs.declared.stop0.Wild.{Wild as Named}
use Rattle.tl0_machine.specs.declared.stop0.Wild.TheVariants as wild
use Rattle.tl0_machine.specs.declared.stop0.Stop0.{Stop0}
use Rattle.tl0_machine.specs.declared.stop0.Stop0.TheVariants.{Stop as Stops, Wild as Goes_wild}
use Rattle.tl0_machine.specs.ThreadStates.{SeenState, machine_with, cause_of, AreMarked}
use Rattle.tl0_machine.specs.ThreadEvents.{ThreadRun, IsEvent, IsStep, IsOutcome, IsWild, stop_of, told_of}
use Rattle.tam_run.specs.declared.halt.Halt.{Halt}
use Rattle.tam_run.specs.Accounts.{Account, account_of}
use Rattle.tam_run.specs.Ends.{end_of_stop}
use Rattle.tam_run.specs.Ends as Ends
use Rattle.tam_run.specs.Halts.{thread_cause, thread_halt}
use Rattle.tam_run.specs.Telling.{Run, GoesOn, EndsSo, Comes, TellsMore, printed_behind}
use Rattle.tam_run.specs.ThreadTelling.{thread_run, thread_stand, ThreadTells}
use Rattle.tam_run.proofs.RunSteps.{tells-more, goes-on, ends-so}
use Rattle.tam_run.proofs.ThreadSteps.{thread-follows}

-- what the machine ensures of an event
pub record IsMachineEvent (old new : ThreadRun) (order order' : List Item) (result : Result Step Stop0) : Type 0 where
  pub event : IsEvent old new order order' result old.stopped
  pub program : new.program ≡ old.program
  pub limits : new.limits ≡ old.limits

-- the answer of the machine, as every level answers
abbrev pub widened : Result Step Stop0 → Result Step Halt
widened (Ok step) = Ok step
widened (Err stop) = Err (thread_halt stop)

-- what comes of it is told, and what was printed behind it is a prefix of that
abbrev pub ThreadCame : ThreadRun → ThreadRun → List Item → List (ℕ × ℕ) → Account → Result Step Stop0 → Type 0
ThreadCame old new r printed a result =
    Comes (λ behind. ThreadTells new r behind a) (thread_stand old) (thread_stand new) printed a (widened result)
    × TellsMore a (printed_behind printed (widened result))

-- the cause is named alike
cause-same : (what : Named) → Ends.cause_of (thread_cause what) ≡ cause_of what
cause-same wild.Frame = refl
cause-same wild.Inlet = refl
cause-same wild.Thread = refl
cause-same wild.Array = refl
cause-same wild.Place = refl
cause-same wild.Skip = refl

module _ (o : Outcome Machine) (s : SeenState) (r : List Item) (printed : List (ℕ × ℕ)) where
  -- a stop is told so
  stop-comes : (stop : Stop) (how : End) → end_of_stop stop ≡ Some how → IsOutcome o s r printed (Err (Stops stop)) → o ≡ Ended how (machine_with s r printed)
  stop-comes (DoubleWrite a b) how e h = let p : Double_write a b ≡ how = cc in h ∙ ap (λ k. Ended k (machine_with s r printed)) p
  stop-comes (OutOfRange a i l) how e h = let p : Out_of_range a i l ≡ how = cc in h ∙ ap (λ k. Ended k (machine_with s r printed)) p
  stop-comes (FramesFull n) how e h = let p : Frames_full n ≡ how = cc in h ∙ ap (λ k. Ended k (machine_with s r printed)) p
  stop-comes (CellsFull u l) how e h = let p : Cells_full u l ≡ how = cc in h ∙ ap (λ k. Ended k (machine_with s r printed)) p
  stop-comes (BudgetSpent n) how e h = let p : Budget_spent n ≡ how = cc in h ∙ ap (λ k. Ended k (machine_with s r printed)) p
  stop-comes NoMemory how e h = absurd cc

-- the same run in another state
abbrev in_state : ThreadRun → SeenState → Option Stop0 → ThreadRun
in_state run s stopped = record { program = run.program; limits = run.limits; state = s; stopped = stopped }

module _ (old : ThreadRun) (s : SeenState) (stopped : Option Stop0) (q r : List Item) (printed : List (ℕ × ℕ)) (a : Account)
    (tells : ThreadTells old q printed a) where
  -- the run
  abbrev its-run : Run Machine
  its-run = thread_run old.program old.limits

  -- its state before the event
  abbrev before : Machine
  before = machine_with old.state q printed

  -- a step goes on
  next-comes : (more : List (ℕ × ℕ)) → thread_step old.program old.limits before ≡ Next (machine_with s r more)
      → stopped ≡ None → AreMarked s.marks more
      → GoesOn (ThreadTells (in_state old s stopped) r more a) (thread_stand old) (thread_stand (in_state old s stopped)) × TellsMore a more
  next-comes more e none marks =
      let on = goes-on Machine its-run (thread-follows old.program old.limits) before (machine_with s r more) a tells.tells e in (
        record { told = record { going = none; marks = marks; tells = on.told }; less = on.less },
        tells-more Machine its-run (thread-follows old.program old.limits) (machine_with s r more) a on.told,
      )

  -- a step ends
  ended-comes : (how : End) (m : Machine) → thread_step old.program old.limits before ≡ Ended how m
      → told_of m ≡ told_of (machine_with s r printed) → EndsSo (thread_stand (in_state old s stopped)) printed a how
  ended-comes how m e same = subst Told same (ends-so Machine its-run (thread-follows old.program old.limits) before m how a tells.tells e)
    where
      Told : List (ℕ × ℕ) × ℕ × ℕ × Arrays × List Item → Type 0
      Told t = a ≡ account_of t.0 how a.report.results (record { events = t.1; activations = t.2; cells = cells_used t.3 }) None

  -- a wild end
  wild-comes : (what : WildCause) (n : ℕ) → IsWild (thread_step old.program old.limits before) what n (machine_with s r printed)
      → EndsSo (thread_stand (in_state old s stopped)) printed a (Wild what n)
  wild-comes what n h = go (thread_step old.program old.limits before) refl h
    where
      go : (o : Outcome Machine) → thread_step old.program old.limits before ≡ o → IsWild o what n (machine_with s r printed)
          → EndsSo (thread_stand (in_state old s stopped)) printed a (Wild what n)
      go (Next m) e h = absurd h
      go (Ended how m) e h = subst (EndsSo (thread_stand (in_state old s stopped)) printed a) h.0 (ended-comes how m e h.1)

  -- what was printed before
  printed-before : TellsMore a printed
  printed-before = tells-more Machine its-run (thread-follows old.program old.limits) before a tells.tells

  -- what comes of a step
  outcome-comes : (result : Result Step Stop0) → IsStep old.program old.limits old.state s q r printed result → stopped ≡ stop_of result
      → ThreadCame old (in_state old s stopped) r printed a result
  outcome-comes (Ok Ran) h none = next-comes printed h.outcome none h.marks
  outcome-comes (Ok Delivered) h none = next-comes printed h.outcome none h.marks
  outcome-comes (Ok (Printed k w)) h none = next-comes (printed ++ (k, w) ∷ []) h.outcome none h.marks
  outcome-comes (Ok Step_quiet) h none = (ended-comes Quiet (machine_with s r printed) h.outcome refl, printed-before)
  outcome-comes (Err (Stops stop)) h some =
      (λ how e. ended-comes how (machine_with s r printed) (stop-comes _ s r printed stop how e h.outcome) refl, printed-before)
  outcome-comes (Err (Goes_wild what n)) h some = (
    subst (λ c. EndsSo (thread_stand (in_state old s stopped)) printed a (Wild c n)) (sym (cause-same what)) (wild-comes (cause_of what) n h.outcome),
    printed-before,
  )

module _ (old new : ThreadRun) (q r : List Item) (result : Result Step Stop0) (is : IsMachineEvent old new q r result) where
  -- what comes of an event
  pub thread-came : (printed : List (ℕ × ℕ)) (a : Account) → ThreadTells old q printed a → ThreadCame old new r printed a result
  thread-came printed a tells =
      subst (λ n. ThreadCame old n r printed a result) (sym same)
      (outcome-comes old new.state new.stopped q r printed a tells result (event.0 printed tells.marks) event.1)
    where
      same : new ≡ in_state old new.state new.stopped
      same = ap₂ (λ p l. record { program = p; limits = l; state = new.state; stopped = new.stopped }) is.program is.limits

      event : IsEvent old new q r result None
      event = subst (IsEvent old new q r result) tells.going is.event
