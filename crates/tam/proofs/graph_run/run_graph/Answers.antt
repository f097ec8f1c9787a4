use Rattle.std.proofs.Common.{◌≡◌, ◌∙◌, refl, sym, ap, subst, List, ℕ, length}
use Rattle.tam_graph.specs.Graphs.{Graph, code_of, params_of}
use Rattle.tam_msgs.specs.declared.item.Item.{Item}
use Rattle.tam_msgs.specs.declared.limits.Limits.{Limits}
use Rattle.tam_run.specs.declared.level.Level.{Level}
use Rattle.tam_run.specs.Accounts.{Account}
use Rattle.tam_run.specs.HandedOut.{handed_out}
use Rattle.tam_run.specs.Levels.{account_at}
use Rattle.tam_words.specs.declared.usage_cause.UsageCause.TheVariants.{ArgsCount}
use Rattle.tam_input.specs.Inputs.{request_of}
use Rattle.tam_input.specs.Refusing.{usage_line}
use Rattle.tam_input.specs.declared.ending.Ending.TheVariants as ending
use Rattle.tam.specs.SaidRuns.{SaysRun}
use Rattle.tam.specs.GraphAnswers.{Spells, AsksGraph, wrong_count}
use Rattle.tam.specs.Due.{of_graph}
use Rattle.tam.specs.Answers.{AnswerTo, due, ran}
use Rattle.tam.specs.Machines.{has_answered, LeavesMachine}
use Rattle.tam.proofs.Saying.{said-done, done-more}
use Rattle.tam.proofs.Modes.{runs-graph}
use Rattle.tam.proofs.Running.{one-each, said-unanswered}
use Rattle.tam.proofs.Handing.{unanswered-keeps, graph-hands}
use Rattle.tam.proofs.graph_run.run_graph.Goals as goal

-- a run on the same arguments within the same limits is the same run
same-run : (level : Level) (g : Graph) (args given : List ℕ) (order : List Item) (limits ls : Limits) → given ≡ args → ls ≡ limits
    → account_at level g given order ls ≡ account_at level g args order limits
same-run level g args given order limits ls e f = ap (λ a. account_at level g a order ls) e ∙ ap (account_at level g args order) f

pub returns-then-args-params : goal.returns-then-args-params
returns-then-args-params g c = record {
  done = λ bytes spelled.
      said-done _ _ _ _ (AnswerTo (request_of c.args.job.now c.args.order) bytes) ending.Usage c.say.result (usage_line ArgsCount)
      (due (of_graph (runs-graph c.args.job.now.mode c.args.level c.requires.mode).reads_it (wrong_count c.requires.mode spelled (λ e.
      c.if-args-params.true (ap length c.args-args.ensures.value ∙ e
      ∙ sym (c.params.ensures.value ∙ ap (λ n. params_of (code_of c.args.graph.now n)) c.main.ensures.value))))))
      c.say.ensures.said;
  machine = λ bytes spelled.
      unanswered-keeps (LeavesMachine (request_of c.args.job.now c.args.order) bytes) c.say.result _
      (said-unanswered ending.Usage c.say.result (usage_line ArgsCount) _ _ _ _ c.say.ensures.said refl);
}

pub returns : goal.returns
returns g c =
    let request = request_of c.args.job.now c.args.order in
    let same = same-run c.args.level c.args.graph.now c.args.job.now.args c.args-args.result.now c.args.order c.args.job.now.limits c.limits.result
    c.args-args.ensures.value c.limits.ensures.value in
    let asks : (bytes : List ℕ) → Spells bytes c.args.graph.now → AsksGraph request bytes c.args.level c.args.graph.now = λ bytes spelled. record {
      mode = c.requires.mode;
      spelled = spelled;
      one_each = one-each c.args.graph.now c.args.job.now.args c.args-args.result.now c.main.result c.params.result c.args-args.ensures.value
          c.main.ensures.value c.params.ensures.value c.if-args-params.false;
    } in
    record {
      done = λ bytes spelled.
          done-more _ _ _ _ (SaysRun (account_at c.args.level c.args.graph.now c.args-args.result.now c.args.order c.limits.result))
          (AnswerTo request bytes) c.run_at.result (λ meant text says. ran (asks bytes spelled) (subst (λ a. SaysRun a meant text) same says))
          c.run_at.ensures.done;
      machine = λ bytes spelled.
          graph-hands request bytes c.args.level c.args.graph.now (asks bytes spelled) c.run_at.result _ _
          (c.run_at.ensures.machine ∙ ap (λ (a : Account). handed_out (has_answered c.run_at.result) a.machine c.args.machine.now) same);
    }
