-- Each run of an accepted graph is a journal over one class per vertex, given the invariant of journals.
use Rattle.std.proofs.Common.{◌≡◌, ◌≤◌, ℕ, suc, ◌+◌, ◌<◌, false, List, [], ◌∷◌, refl, sym, subst, ap, inl, inr, ◌∙◌}
use Rattle.std.proofs.Common.{true≢false, length, Some, None, Option, arith, Contains}
use Rattle.std.specs.Prelude.{IsTrue}
use Rattle.tam_word.proofs.Members.{In}
use Rattle.tam_graph.specs.Graphs.{Graph}
use Rattle.tam_graph.specs.Accepted.{IsAccepted}
use Rattle.tam_split.specs.GraphPartitions.{singles}
use Rattle.tam_split.proofs.SinglesValid.{singles-valid}
use Rattle.tam_msgs.specs.declared.message.Message.TheVariants.{Frame as Begin, Cells as Make}
use Rattle.tam_msgs.specs.declared.limits.Limits.{Limits}
use Rattle.tam_msgs.specs.Runs.{run_from, End, Quiet, Double_write, Out_of_range, Frames_full, Cells_full, Budget_spent, Wild, Trap}
use Rattle.tam_istr.specs.Cells.{cells_used}
use Rattle.tam_world.specs.Worlds.{Fault, Second_store, Outside_cells, opening}
use Rattle.tam_flow.specs.Journals.{State, Event, initial, is_legal, state_after, on_their_way, may_follow, IsQuiet}
use Rattle.tam_flow.specs.RunJournals.{IsCharged, EndsSo}
use Rattle.tam_flow.specs.ReachedLaw.{JournalsAreReached}
use Rattle.tam_eval.specs.GraphRuns.{GraphState, graph_step, graph_opening, joins, nothing_begun}
use Rattle.tam_eval.specs.GraphLaws.{GraphRunsAreJournals}
use Rattle.tam_eval.proofs.WorldSizes.{Few}
use Rattle.tam_eval.proofs.StepsCaughtUp.{AllReached, reached-now, reached-on}
use Rattle.tam_eval.proofs.Opening.{opening-follows, opening-same, opening-charge}
use Rattle.tam_eval.proofs.Running.{EndFits, EndGoes, run-goes, opening-sized}
use Rattle.tam_eval.proofs.Charges.{Charged}
use Rattle.tam_eval.proofs.Instances.{charged-is}
use Rattle.tam_eval.proofs.Quiet.{none-follows}

-- an element is contained
in-contains : {X : Type 0} (x : X) (xs : List X) → In x xs → Contains xs x
in-contains x [] h = absurd h
in-contains x (y ∷ ys) (inl e) = (0, omega arith, e)
in-contains x (y ∷ ys) (inr h) = let r = in-contains x ys h in let l : r.0 < length ys = r.1 in (suc r.0, omega arith, r.2)

-- nothing isn't something
none-some : {X : Type 0} {x : X} {o : Option X} → o ≡ None → o ≡ Some x → ⊥
none-some p q = cc

-- the two faults differ
faults-differ : {a b s i l : ℕ} {o : Option Fault} → o ≡ Some (Second_store a b) → o ≡ Some (Outside_cells s i l) → ⊥
faults-differ p q = cc

module _ (g : Graph) (limits : Limits) (t : State) (made : ℕ) where
  -- only a double write leaves a second store
  double-back : (how : End) (a b : ℕ) → EndFits g limits t made how → t.fault ≡ Some (Second_store a b) → how ≡ Double_write a b
  double-back Quiet a b f h = absurd (none-some f.0.whole h)
  double-back (Double_write x y) a b f h = same (sym f ∙ h)
    where
      same : Some (Second_store x y) ≡ Some (Second_store a b) → Double_write x y ≡ Double_write a b
      same e = cc
  double-back (Out_of_range s i l) a b f h = absurd (faults-differ h f)
  double-back (Frames_full n) a b f h = absurd (none-some f.0 h)
  double-back (Cells_full u l) a b f h = absurd (none-some f.0 h)
  double-back (Budget_spent n) a b f h = absurd (none-some f.0 h)
  double-back (Wild what n) a b f h = absurd f
  double-back (Trap pc cause) a b f h = absurd f

  -- only an access out of range leaves one
  outside-back : (how : End) (s i l : ℕ) → EndFits g limits t made how → t.fault ≡ Some (Outside_cells s i l) → how ≡ Out_of_range s i l
  outside-back Quiet s i l f h = absurd (none-some f.0.whole h)
  outside-back (Double_write x y) s i l f h = absurd (faults-differ f h)
  outside-back (Out_of_range x y z) s i l f h = same (sym f ∙ h)
    where
      same : Some (Outside_cells x y z) ≡ Some (Outside_cells s i l) → Out_of_range x y z ≡ Out_of_range s i l
      same e = cc
  outside-back (Frames_full n) s i l f h = absurd (none-some f.0 h)
  outside-back (Cells_full u v) s i l f h = absurd (none-some f.0 h)
  outside-back (Budget_spent n) s i l f h = absurd (none-some f.0 h)
  outside-back (Wild what n) s i l f h = absurd f
  outside-back (Trap pc cause) s i l f h = absurd f

  -- where nothing may follow the run is quiet
  quiet-back : (how : End) → EndFits g limits t made how → t.fault ≡ None → ((e : Event) → may_follow g (singles g) t e ≡ false) → how ≡ Quiet
  quiet-back Quiet f w e = refl
  quiet-back (Double_write x y) f w e = absurd (none-some w f)
  quiet-back (Out_of_range s i l) f w e = absurd (none-some w f)
  quiet-back (Frames_full n) f w e = absurd (true≢false (sym f.1.1 ∙ e f.1.0))
  quiet-back (Cells_full u l) f w e = absurd (true≢false (sym f.1.1 ∙ e f.1.0))
  quiet-back (Budget_spent n) f w e = absurd (true≢false (sym f.1.1 ∙ e f.1.0))
  quiet-back (Wild what n) f w e = absurd f
  quiet-back (Trap pc cause) f w e = absurd f

-- the end of a run, by the state behind its journal
ends-so : (g : Graph) → IsAccepted g → (args : List ℕ) (limits : Limits) (events : List Event) (how : End) (made : ℕ) → IsTrue
    (is_legal g (singles g) args events)
    → AllReached g args (state_after g (singles g) args events) → EndFits g limits (state_after g (singles g) args events) made how
    → IsCharged g (singles g) (state_after g (singles g) args events) made → EndsSo g (singles g) args limits events how made
ends-so g acc args limits events how made legal all fits charged = record {
  quiet = λ e. quiet (subst (EndFits g limits t made) e fits);
  double = λ a b. (λ e. subst (EndFits g limits t made) e fits, double-back g limits t made how a b fits);
  outside = λ s i l. (λ e. subst (EndFits g limits t made) e fits, outside-back g limits t made how s i l fits);
  frames = λ n e. frames n (subst (EndFits g limits t made) e fits);
  cells = λ u l e. cells u l (subst (EndFits g limits t made) e fits);
  budget = λ n e. let f = subst (EndFits g limits t made) e fits in (f.2, f.3);
  charged = charged;
}
  where
    t : State
    t = state_after g (singles g) args events

    quiet : EndFits g limits (state_after g (singles g) args events) made Quiet → IsQuiet g (singles g) args events
    quiet (follows, none, few) = record {
      legal = legal;
      whole = follows.whole;
      ended = none-follows g acc args (state_after g (singles g) args events)
          (reached-now g args (state_after g (singles g) args events) all few) follows none;
    }

    frames : (n : ℕ) → EndFits g limits (state_after g (singles g) args events) made (Frames_full n) → (n ≡ limits.frames)
        × (n ≤ length (state_after g (singles g) args events).world.activations)
        × ((c f x : ℕ) × Contains (on_their_way (state_after g (singles g) args events)) (Begin c f x))
    frames n (w, m, e, l, (c, f, x, i)) = (e, l, (c, f, x, in-contains (Begin c f x) (on_their_way (state_after g (singles g) args events)) i))

    cells : (u l : ℕ) → EndFits g limits (state_after g (singles g) args events) made (Cells_full u l) → (limits.cells < u + l)
        × (cells_used (state_after g (singles g) args events).world.arrays ≡ u)
        × ((f x : ℕ) × Contains (on_their_way (state_after g (singles g) args events)) (Make l f x))
    cells u l (w, m, e, k, (f, x, i)) = (e, k, (f, x, in-contains (Make l f x) (on_their_way (state_after g (singles g) args events)) i))

-- so each run is a journal
pub graph_runs-journals : JournalsAreReached → GraphRunsAreJournals
graph_runs-journals invariant g args order limits acc arguments ranges = record {
  journal = record {
    events = goes.events;
    legal = goes.goes.legal;
    same_words = ap (λ (s : State). s.printed) goes.goes.ends ∙ goes.printed;
    same_activations = ap (λ (s : State). length s.world.activations) goes.goes.ends ∙ ap (λ (w : _). length w.activations) goes.world;
    ends_so = ends-so g acc args limits goes.events end.0 end.1.events goes.goes.legal after fits
        (charged-is g args (state_after g (singles g) args goes.events)
        (reached-now g args (state_after g (singles g) args goes.events) after few) end.1.events
        (subst (λ u. Charged g u (run_from (graph_step g limits) limits.budget (graph_opening g args order)).1.events)
        (sym goes.goes.ends) goes.charged));
  };
  quiet_too = λ q. quiet-back g limits (state_after g (singles g) args goes.events) end.1.events end.0 fits q.whole q.ended;
}
  where
    end : End × GraphState
    end = run_from (graph_step g limits) limits.budget (graph_opening g args order)

    all : AllReached g args (initial g args)
    all es l few = invariant g (singles g) args es (record {
      accepted = acc;
      arguments = arguments;
      valid = singles-valid g acc;
      legal = l;
      few_activations = few.activations;
      few_arrays = few.arrays;
    })

    goes : EndGoes g limits (initial g args) (run_from (graph_step g limits) limits.budget (graph_opening g args order)).0
        (run_from (graph_step g limits) limits.budget (graph_opening g args order)).1
    goes = subst (λ (d : GraphState). EndGoes g limits (initial g args) (run_from (graph_step g limits) limits.budget d).0
        (run_from (graph_step g limits) limits.budget d).1)
        (sym (opening-same g args order))
        (run-goes g acc args limits limits.budget (initial g args) all 0 (omega arith) ranges
        (opening-sized g args)
        (opening-charge g args) (joins g nothing_begun (opening g)) order (opening-follows g args))

    after : AllReached g args (state_after g (singles g) args goes.events)
    after = reached-on g args (initial g args) (state_after g (singles g) args goes.events) goes.events (record { legal = goes.goes.legal; ends = refl }) all

    fits : EndFits g limits (state_after g (singles g) args goes.events) (run_from (graph_step g limits) limits.budget (graph_opening g args order)).1.events
        (run_from (graph_step g limits) limits.budget (graph_opening g args order)).0
    fits = subst (λ u. EndFits g limits u (run_from (graph_step g limits) limits.budget (graph_opening g args order)).1.events
        (run_from (graph_step g limits) limits.budget (graph_opening g args order)).0) (sym goes.goes.ends) goes.fits

    few : Few (state_after g (singles g) args goes.events).world
    few = subst (λ (u : State). Few u.world) (sym goes.goes.ends) goes.few
