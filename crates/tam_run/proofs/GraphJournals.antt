-- The report of each run of an accepted graph is borne out by a journal over one class per vertex.
use Rattle.std.proofs.Common.{ℕ, List, length, refl, sym, subst, ap, ◌∙◌, arith}
use Rattle.std.specs.Prelude.{IsTrue}
use Rattle.tam_graph.specs.Graphs.{Graph, AreArguments}
use Rattle.tam_graph.specs.Accepted.{IsAccepted}
use Rattle.tam_split.specs.GraphPartitions.{singles}
use Rattle.tam_split.proofs.SinglesValid.{singles-valid}
use Rattle.tam_msgs.specs.declared.item.Item.{Item}
use Rattle.tam_msgs.specs.declared.limits.Limits.{Limits}
use Rattle.tam_msgs.specs.Messages.{AreLimits}
use Rattle.tam_msgs.specs.Runs.{run_from, End, Quiet, Double_write, Out_of_range, Frames_full, Cells_full, Budget_spent, Wild, Trap}
use Rattle.tam_istr.specs.Cells.{cells_used}
use Rattle.tam_world.specs.Worlds.{World, opening}
use Rattle.tam_flow.specs.Journals.{State, Event, initial, is_legal, state_after, on_their_way}
use Rattle.tam_flow.specs.JournalLaws.{IsJournal}
use Rattle.tam_flow.proofs.JournalsReached.{journals-reached}
use Rattle.tam_eval.specs.GraphRuns.{GraphState, graph_step, graph_opening, graph_told, joins, nothing_begun}
use Rattle.tam_eval.proofs.WorldSizes.{Few}
use Rattle.tam_eval.proofs.StepsCaughtUp.{AllReached, reached-now, reached-on}
use Rattle.tam_eval.proofs.Opening.{opening-follows, opening-same, opening-charge}
use Rattle.tam_eval.proofs.Running.{EndFits, EndGoes, run-goes, opening-sized}
use Rattle.tam_eval.proofs.Charges.{Charged}
use Rattle.tam_eval.proofs.Instances.{charged-is}
use Rattle.tam_eval.proofs.Quiet.{none-follows}
use Rattle.tam_flow.specs.BorneOut.{BearsOut, IsBorneOut}
use Rattle.tam_flow.proofs.JournalResults.{in-contains}
use Rattle.tam_msgs.specs.declared.message.Message.TheVariants.{Frame as Begin, Cells as Make}

module _ (g : Graph) (args : List ℕ) (order : List Item) (limits : Limits) (accepted : IsAccepted g) (arguments : AreArguments g args)
    (ranges : AreLimits limits) where
  -- a legal journal of few activations and arrays is one
  journal-is : (events : List Event) → IsTrue (is_legal g (singles g) args events) → Few (state_after g (singles g) args events).world
      → IsJournal g (singles g) args events
  journal-is events legal few = record {
    accepted = accepted;
    arguments = arguments;
    valid = singles-valid g accepted;
    legal = legal;
    few_activations = few.activations;
    few_arrays = few.arrays;
  }

  -- what each legal journal reaches
  all : AllReached g args (initial g args)
  all events legal few = journals-reached g (singles g) args events (journal-is events legal few)

  -- the run and its journal
  goes : EndGoes g limits (initial g args) (run_from (graph_step g limits) limits.budget (graph_opening g args order)).0
      (run_from (graph_step g limits) limits.budget (graph_opening g args order)).1
  goes = subst (λ (d : GraphState). EndGoes g limits (initial g args) (run_from (graph_step g limits) limits.budget d).0
      (run_from (graph_step g limits) limits.budget d).1)
      (sym (opening-same g args order))
      (run-goes g accepted args limits limits.budget (initial g args) all 0 (omega arith) ranges
      (opening-sized g args)
      (opening-charge g args) (joins g nothing_begun (opening g)) order (opening-follows g args))

  -- it leaves few activations and arrays
  few : Few (state_after g (singles g) args goes.events).world
  few = subst (λ (u : State). Few u.world) (sym goes.goes.ends) goes.few

  -- so it is one
  journal : IsJournal g (singles g) args goes.events
  journal = journal-is goes.events goes.goes.legal few

  -- what it reaches
  after : AllReached g args (state_after g (singles g) args goes.events)
  after = reached-on g args (initial g args) (state_after g (singles g) args goes.events) goes.events (record { legal = goes.goes.legal; ends = refl }) all

  -- the end of the run, by the state behind the journal
  bears-out : (how : End) (made : ℕ) → EndFits g limits (state_after g (singles g) args goes.events) made how
      → BearsOut g (singles g) args limits goes.events made how
  bears-out Quiet made (follows, none, small) = record {
    legal = goes.goes.legal;
    whole = follows.whole;
    ended = none-follows g accepted args (state_after g (singles g) args goes.events)
        (reached-now g args (state_after g (singles g) args goes.events) after small) follows none;
  }
  bears-out (Double_write a b) made f = f
  bears-out (Out_of_range a i l) made f = f
  bears-out (Frames_full n) made (whole, may, e, l, way) = (
    e,
    omega (arith, l),
    (way.0, way.1, way.2, in-contains (Begin way.0 way.1 way.2) (on_their_way (state_after g (singles g) args goes.events)) way.3),
    whole,
  )
  bears-out (Cells_full u l) made (whole, may, e, k, way) = (
    e,
    k,
    (way.0, way.1, in-contains (Make l way.0 way.1) (on_their_way (state_after g (singles g) args goes.events)) way.2),
    whole,
  )
  bears-out (Budget_spent n) made (whole, may, e, k) = (e, k, whole)
  bears-out (Wild what n) made f = absurd f
  bears-out (Trap pc cause) made f = absurd f

  -- the report of the run is borne out
  pub run-borne : IsBorneOut g (singles g) args limits (graph_told g args order limits)
  run-borne = record {
    events = goes.events;
    journal = journal;
    printed = ap (λ (u : State). u.printed) goes.goes.ends ∙ goes.printed;
    activations = ap (λ (u : State). length u.world.activations) goes.goes.ends ∙ ap (λ (w : World). length w.activations) goes.world;
    cells = ap (λ (u : State). cells_used u.world.arrays) goes.goes.ends ∙ ap (λ (w : World). cells_used w.arrays) goes.world;
    results = refl;
    ends = bears-out (run_from (graph_step g limits) limits.budget (graph_opening g args order)).0
        (run_from (graph_step g limits) limits.budget (graph_opening g args order)).1.events
        (subst (λ u. EndFits g limits u (run_from (graph_step g limits) limits.budget (graph_opening g args order)).1.events
        (run_from (graph_step g limits) limits.budget (graph_opening g args order)).0) (sym goes.goes.ends) goes.fits);
    charged = charged-is g args (state_after g (singles g) args goes.events)
        (reached-now g args (state_after g (singles g) args goes.events) after few)
        (run_from (graph_step g limits) limits.budget (graph_opening g args order)).1.events
        (subst (λ u. Charged g u (run_from (graph_step g limits) limits.budget (graph_opening g args order)).1.events) (sym goes.goes.ends) goes.charged);
  }
