-- A report that a journal bears out is right: over any valid partitions, whatever made the run.
use Rattle.std.proofs.Common.{arith, ◌≤◌, ◌≡◌, ◌↔◌, ℕ, ◌+◌, ◌<◌, List, length, Contains, Some, sym, subst, slice_get}
use Rattle.tam_graph.specs.Graphs.{Graph, code_of, results_of}
use Rattle.tam_split.specs.GraphPartitions.{Partitions}
use Rattle.tam_fire.specs.FiringRules.{Result}
use Rattle.tam_msgs.specs.declared.message.Message.TheVariants.{Frame as Begin, Cells as Make}
use Rattle.tam_msgs.specs.declared.limits.Limits.{Limits}
use Rattle.tam_msgs.specs.Runs.{End, Quiet, Double_write, Out_of_range, Frames_full, Cells_full, Budget_spent, Wild, Trap, Report, missing_of}
use Rattle.tam_flow.specs.Journals.{Event, state_after, on_their_way, IsQuiet}
use Rattle.tam_flow.specs.JournalLaws.{IsJournal}
use Rattle.tam_flow.specs.RunJournals.{IsCharged}
use Rattle.tam_flow.proofs.Faults.{faults_are-given}
use Rattle.tam_flow.specs.Headline.{IsRight, IsExact, HasCause, TooManyActivations, TooManyEvents}
use Rattle.tam_flow.specs.BorneOut.{BearsOut, IsBorneOut}
use Rattle.tam_flow.proofs.JournalResults.{contains-in, printed-result, printed-once, result-printed, missing-is}
use Rattle.tam_flow.proofs.JournalCauses.{more-activations, more-cells, more-events}

-- more than are there is more than any number up to that
fewer-too : (g : Graph) (args : List ℕ) (m n : ℕ) → n ≤ m → TooManyActivations g args m → TooManyActivations g args n
fewer-too g args m n l (steps, qs, known, more) = (steps, qs, known, omega (arith, l, more))

module _ (g : Graph) (all : Partitions) (args : List ℕ) (limits : Limits) (events : List Event) (journal : IsJournal g all args events) (made : ℕ)
    (charged : IsCharged g all (state_after g all args events) made) where
  -- an end that is borne out has its cause
  cause-of : (how : End) → BearsOut g all args limits events made how → HasCause g args limits how
  cause-of Quiet h = tt
  cause-of (Double_write a b) h = (faults_are-given g all args events journal).double a b h
  cause-of (Out_of_range a i l) h = (faults_are-given g all args events journal).outside a i l h
  cause-of (Frames_full n) h = (
    h.0,
    fewer-too g args (length (state_after g all args events).world.activations) n h.1 (more-activations g all args events journal h.2.0 h.2.1 h.2.2
        (contains-in (on_their_way (state_after g all args events)) (Begin h.2.0 h.2.1 h.2.2) h.2.3)),
  )
  cause-of (Cells_full u l) h = (
    h.0,
    more-cells g all args events journal l h.2.0 h.2.1 limits.cells
        (contains-in (on_their_way (state_after g all args events)) (Make l h.2.0 h.2.1) h.2.2) (subst (λ n. limits.cells < n + l) (sym h.1) h.0),
  )
  cause-of (Budget_spent n) h =
      (h.0, subst (TooManyEvents g args) h.1 (more-events g all args events journal made charged))
  cause-of (Wild what n) h = absurd h
  cause-of (Trap pc cause) h = absurd h

-- a report that is borne out is right
pub borne-right : (g : Graph) (all : Partitions) (args : List ℕ) (limits : Limits) (r : Report) → IsBorneOut g all args limits r → IsRight g args limits r
borne-right g all args limits r b = record {
  results = λ k w h. printed-result g all args b.events b.journal k w (subst (λ xs. Contains xs (k, w)) (sym b.printed) h);
  each_once = λ i j k v w p q. printed-once g all args b.events b.journal i j k v w
      (subst (λ xs. slice_get xs i ≡ Some (k, v)) (sym b.printed) p) (subst (λ xs. slice_get xs j ≡ Some (k, w)) (sym b.printed) q);
  exact = exact;
  cause = cause-of g all args limits b.events b.journal r.events b.charged r.how b.ends;
}
  where
    exact : r.how ≡ Quiet → IsExact g args r
    exact e = record {
      lines = λ k w. (
        λ h. printed-result g all args b.events b.journal k w (subst (λ xs. Contains xs (k, w)) (sym b.printed) h),
        λ h. subst (λ xs. Contains xs (k, w)) b.printed (result-printed g all args b.events b.journal quiet k w h),
      );
      missing = λ k. subst (λ how. Contains (missing_of how r.results r.printed) k
          ↔ ((k < results_of (code_of g g.main)) × ((w : ℕ) → ¬ Result g args k w))) (sym e)
          (subst (λ n. Contains (missing_of Quiet n r.printed) k ↔ ((k < results_of (code_of g g.main)) × ((w : ℕ) → ¬ Result g args k w))) (sym b.results)
          (subst (λ xs. Contains (missing_of Quiet (results_of (code_of g g.main)) xs) k
          ↔ ((k < results_of (code_of g g.main)) × ((w : ℕ) → ¬ Result g args k w))) b.printed
          (missing-is g all args b.events b.journal quiet (results_of (code_of g g.main)) k)));
    }
      where
        quiet : IsQuiet g all args b.events
        quiet = subst (BearsOut g all args limits b.events r.events) e b.ends
