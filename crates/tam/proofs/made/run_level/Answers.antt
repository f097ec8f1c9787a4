use Rattle.std.proofs.Common.{◌≡◌, ℕ, List, [], ◌∷◌, refl, ap, subst, sym, ◌∙◌}
use Rattle.std.specs.Io.KnownBytes.{Appends}
use Rattle.std.proofs.lemmas.List.{append-nil}
use Rattle.tam_edge.specs.Whole.{AppendsPrefix}
use Rattle.tam_graph.specs.Graphs.{Graph}
use Rattle.tam_msgs.specs.declared.item.Item.{Item}
use Rattle.tam_msgs.specs.declared.limits.Limits.{Limits}
use Rattle.tam_run.specs.declared.level.Level.{Level}
use Rattle.tam_run.specs.Accounts.{Account}
use Rattle.tam_run.specs.HandedOut.{handed_out}
use Rattle.tam_run.specs.Levels.{account_at}
use Rattle.tam_words.specs.Options.{usual_limits}
use Rattle.tam.specs.SaidRuns.{ending_of, SaysRun}
use Rattle.tam.specs.MadeRuns.{level_line, run_lines, made_run}
use Rattle.tam.specs.Machines.{has_answered}
use Rattle.tam.specs.Headline.{IsDone}
use Rattle.tam.proofs.SaidLines.{level-done, prefix-done}
use Rattle.tam.proofs.made.run_level.Goals as goal

-- a run on the same argument, under the empty order and within the usual limits, is the same run
same-run : (level : Level) (g : Graph) (a b : ℕ) (order : List Item) (limits : Limits) → a ≡ b → order ≡ [] → limits ≡ usual_limits
    → account_at level g (a ∷ []) order limits ≡ account_at level g (b ∷ []) [] usual_limits
same-run level g a b order limits e f h =
    ap (λ x. account_at level g (x ∷ []) order limits) e ∙ ap (λ o. account_at level g (b ∷ []) o limits) f ∙ ap (account_at level g (b ∷ []) []) h

pub returns-in-Ok : goal.returns-in-Ok
returns-in-Ok g c =
    let old = g.K.Sink.taken c.args.out.now in
    let mid = g.K.Sink.taken c.write_whole.new.out in
    let new = g.K.Sink.taken c.run_at.new.out in
    let same = same-run c.args.level c.args.graph.now _ _ c.none-order.result c.usual_limits.result c.argument_of.ensures.value c.none-order.ensures.empty
    c.usual_limits.ensures.value in
    record {
      done = level-done old mid new _ _ _ c.args.level (made_run c.args.shape c.args.n c.args.graph.now c.args.level)
          (subst (Appends old mid) c.level_line.ensures.value c.in-Ok.ensures.ok) c.in-Ok.ensures.counted c.run_at.result
          (subst (λ a. IsDone (SaysRun a) c.run_at.result mid new (g.K.Sink.faults c.write_whole.new.out) (g.K.Sink.faults c.run_at.new.out)) same
          c.run_at.ensures.done);
      machine = c.run_at.ensures.machine ∙ ap (λ (a : Account). handed_out (has_answered c.run_at.result) a.machine c.args.machine.now) same;
    }

pub returns-in-Err : goal.returns-in-Err
returns-in-Err g c =
    let run = made_run c.args.shape c.args.n c.args.graph.now c.args.level in
    let old = g.K.Sink.taken c.args.out.now in
    let new = g.K.Sink.taken c.write_whole.new.out in
    record {
      done = prefix-done old new _ _ (level_line c.args.level ∷ []) (run_lines run) (ending_of run.report)
          (subst (AppendsPrefix old new) (c.level_line.ensures.value ∙ sym (append-nil (level_line c.args.level))) c.in-Err.ensures.err)
          c.in-Err.ensures.counted;
      machine = refl;
    }
