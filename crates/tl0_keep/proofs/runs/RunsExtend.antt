-- Where a thread runs, the journal goes on by runs of classes.
use Rattle.std.proofs.Common.{◌≡◌, ℕ, List, [], ◌++◌, length, Option, Some, None, slice_get, sym, ap, subst, ◌∙◌}
use Rattle.tam_word.proofs.Members.{In, in-map}
use Rattle.tam_msgs.specs.declared.item.Item.{Item}
use Rattle.tam_msgs.specs.declared.choice.Choice.{Choice}
use Rattle.tam_msgs.specs.declared.choice.Choice.TheVariants.{Run as Choose_run}
use Rattle.tam_msgs.specs.Runs.{choice}
use Rattle.tam_graph.specs.Graphs.{Graph}
use Rattle.tam_split.specs.GraphPartitions.{Partitions, partitions, or_none}
use Rattle.tam_flow.specs.Journals.{Event, Run, state_after}
use Rattle.tam_flow.specs.JournalLaws.{IsJournal}
use Rattle.frame_tables.specs.FrameTables.{is_ready, next_thread}
use Rattle.tl0_code.specs.ThreadCode.{Program, plain}
use Rattle.tl0_code.specs.Machines.{Machine, Plain, code_at}
use Rattle.tl0_code.specs.ThreadRuns.{step_of}
use Rattle.tl0_keep.specs.Compiled.{compiled}
use Rattle.tl0_keep.specs.ThreadJournals.{class_of_thread, run_events, next_events, events_of}
use Rattle.tl0_keep.specs.ThreadNames.{Shares}
use Rattle.tl0_keep.specs.ThreadLaws.{IsClassRun, RunExtends, PlainRunsExtend}
use Rattle.tl0_keep.proofs.code.Facts.{code-facts}
use Rattle.tl0_keep.proofs.class_run.Runs.{class-runs}
use Rattle.tl0_keep.proofs.giving.Places.{contains-in}
use Rattle.tl0_keep.proofs.runs.Journey.{Here}
use Rattle.tl0_keep.proofs.runs.PlainRuns.{compiled-is, some-source, shared-from, own-goes, RunGoes}
use Rattle.tl0_keep.proofs.runs.StepGoals.{GoesBy}
use Rattle.tl0_keep.proofs.runs.StepsDelivered.{step-goes}
use Rattle.tl0_keep.proofs.runs.Switching.{switch-runs}
use Rattle.tl0_keep.proofs.runs.ValidParts.{partitions-valid}
use Rattle.tl0_keep.specs.ThreadJournals.{journal_of}

-- the events of a thread that runs are runs of classes
thread-runs : (all : Partitions) (m : Machine) (o : Option (ℕ × ℕ)) (e : Event) → In e (run_events all m o) → IsClassRun e
thread-runs all m None e i = absurd i
thread-runs all m (Some (f, t)) e i =
    let r = in-map (λ (bk : ℕ × ℕ). Run f bk.0 bk.1) e (class_of_thread (or_none (slice_get all (code_at m f))) t) i in subst IsClassRun r.2 tt

-- so are those of an event at which a run is chosen
chosen-runs : (g : Graph) (args : List ℕ) (events : List Event) (m : Machine) (c : Choice × List Item) → c.0 ≡ Choose_run → (e : Event)
    → In e (events_of (partitions g) m (state_after g (partitions g) args events) c) → IsClassRun e
chosen-runs g args events m (Choose_run, rest) q e i = thread-runs (partitions g) m (next_thread m.table).0 e i
chosen-runs g args events m (c, rest) q e i = absurd cc

-- so the plain run of the code of an accepted graph extends its journal by runs where a thread runs
pub plain-extends : PlainRunsExtend
plain-extends g args order limits n m after job there step run =
    let h = subst (RunGoes g (partitions g) args limits [] (journal_of n g (partitions g) (plain (compiled g)) args order limits)) there
    (own-goes g args order limits n job) in
    from h.0 (subst (GoesBy g (partitions g) args limits h.0.events (next_events (partitions g) m (state_after g (partitions g) args h.0.events)))
    (ap (λ (p : Program). step_of Plain (plain p) limits m) (sym (compiled-is g)) ∙ step)
    (step-goes g job.accepted (partitions g) (partitions-valid g job.accepted) args job.arguments limits job.ranges (code-facts g job.accepted)
    (some-source g (partitions g)) (class-runs g job.accepted args) (switch-runs g job.accepted (partitions g) (code-facts g job.accepted) args) m h.0))
  where
    from : (here : Here g (partitions g) args limits m)
        → (k : Here g (partitions g) args limits after)
        × (k.events ≡ here.events ++ next_events (partitions g) m (state_after g (partitions g) args here.events)) → RunExtends g args m after
    from here (k, e) =
        let a = shared-from g args limits m job here in
        let b = shared-from g args limits after job k in
        record {
          events = here.events;
          runs = next_events (partitions g) m (state_after g (partitions g) args here.events);
          all_runs = λ x c. chosen-runs g args here.events m (choice m.order (is_ready m.table) (length m.pending)) run x
              (contains-in (next_events (partitions g) m (state_after g (partitions g) args here.events)) x c);
          journal = subst (IsJournal g (partitions g) args) a.1 a.0.journal;
          longer = subst (IsJournal g (partitions g) args) (b.1 ∙ e) b.0.journal;
          shares = subst (λ (es : List Event). Shares g m (state_after g (partitions g) args es)) a.1 a.0.shares;
          shares_then = subst (λ (es : List Event). Shares g after (state_after g (partitions g) args es)) (b.1 ∙ e) b.0.shares;
        }
