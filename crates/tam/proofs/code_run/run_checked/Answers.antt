use Rattle.std.proofs.Common.{◌≡◌, ◌∙◌, sym, ap, subst, List, ℕ, length}
use Rattle.tam_msgs.specs.declared.item.Item.{Item}
use Rattle.tam_msgs.specs.declared.limits.Limits.{Limits}
use Rattle.tam_words.specs.declared.usage_cause.UsageCause.TheVariants.{ArgsCount}
use Rattle.tam_input.specs.Inputs.{request_of}
use Rattle.tam_input.specs.Refusing.{usage_line}
use Rattle.tam_input.specs.declared.ending.Ending.TheVariants as ending
use Rattle.tl0_code.specs.ThreadCode.{Program}
use Rattle.tl0_code.specs.ThreadRuns.{thread_told}
use Rattle.tl0_code.specs.CodeRules.{IsChecked}
use Rattle.tam_run.specs.Accounts.{plain_account}
use Rattle.tam.specs.SaidRuns.{SaysRun}
use Rattle.tam.specs.CodeAnswers.{wrong_count}
use Rattle.tam.specs.Due.{of_code}
use Rattle.tam.specs.Answers.{AnswerTo, due, code_ran}
use Rattle.tam.proofs.Saying.{said-done, done-more}
use Rattle.tam.proofs.code_run.run_checked.Goals as goal

-- a run on the same arguments within the same limits is the same run
same-run : (p : Program) (args given : List ℕ) (order : List Item) (limits ls : Limits) → given ≡ args → ls ≡ limits
    → thread_told p given order ls ≡ thread_told p args order limits
same-run p args given order limits ls e f = ap (λ a. thread_told p a order ls) e ∙ ap (thread_told p args order) f

pub returns-then-args-main_params : goal.returns-then-args-main_params
returns-then-args-main_params g c = record {
  done = λ bytes reads.
      said-done _ _ _ _ (AnswerTo (request_of c.args.job.now c.args.order) bytes) ending.Usage c.say.result (usage_line ArgsCount)
      (due (of_code c.requires.mode (wrong_count (record { reads = reads; checked = subst IsChecked c.code.view_is c.code.invariant }) (λ e.
      c.if-args-main_params.true (ap length c.args-args.ensures.value ∙ e ∙ sym c.main_params.ensures.value)))))
      c.say.ensures.said;
}

pub returns : goal.returns
returns g c = record {
  done = λ bytes reads.
      let told = plain_account (thread_told c.args.code c.args-args.result.now c.args.order c.limits.result) in
      let same = ap plain_account (same-run c.args.code c.args.job.now.args c.args-args.result.now c.args.order c.args.job.now.limits c.limits.result
      c.args-args.ensures.value c.limits.ensures.value) in
      done-more _ _ _ _ (SaysRun told) (AnswerTo (request_of c.args.job.now c.args.order) bytes) c.answer_exec.result (λ meant text says. code_ran (record {
        mode = c.requires.mode;
        spelled = record { reads = reads; checked = subst IsChecked c.code.view_is c.code.invariant };
        one_each = ap length (sym c.args-args.ensures.value) ∙ c.if-args-main_params.false ∙ c.main_params.ensures.value;
      }) (subst (λ a. SaysRun a meant text) same says))
      (c.answer_exec.ensures.done told (g.K.Sink.taken c.args.out.now) (g.K.Sink.faults c.args.out.now) c.run_code-exec.ensures.text
      c.run_code-exec.ensures.counted);
}
