use Rattle.std.proofs.Common.{◌≡◌, ◌∙◌, ◌^◌, refl, sym, ap, subst, List, ℕ, length}
use Rattle.tam_msgs.specs.declared.item.Item.{Item}
use Rattle.tam_msgs.specs.declared.limits.Limits.{Limits}
use Rattle.tam_run.specs.Accounts.{Account, image_account}
use Rattle.tam_run.specs.HandedOut.{handed_out}
use Rattle.tam_words.specs.declared.usage_cause.UsageCause.TheVariants.{ArgsCount}
use Rattle.tam_input.specs.Inputs.{request_of}
use Rattle.tam_input.specs.Refusing.{usage_line}
use Rattle.tam_input.specs.declared.ending.Ending.TheVariants as ending
use Rattle.rv_inst.specs.Images.{Image}
use Rattle.rv_image.specs.ImageFiles.{image_bytes}
use Rattle.rv_image.specs.ImageLaws.{AreBelow}
use Rattle.tam.specs.SaidRuns.{SaysRun}
use Rattle.tam.specs.ImageAnswers.{SpellsImage, AsksImage, wrong_count}
use Rattle.tam.specs.Due.{of_image}
use Rattle.tam.specs.Answers.{AnswerTo, due, image_ran}
use Rattle.tam.specs.Machines.{has_answered, LeavesMachine}
use Rattle.tam.proofs.Saying.{said-done, done-more}
use Rattle.tam.proofs.Running.{said-unanswered}
use Rattle.tam.proofs.Handing.{unanswered-keeps, image-hands}
use Rattle.tam.proofs.image_run.run_read.Goals as goal

-- a run on the same arguments within the same limits is the same run
same-run : (image : Image) (args given : List ℕ) (order : List Item) (limits ls : Limits) → given ≡ args → ls ≡ limits
    → image_account image given order ls ≡ image_account image args order limits
same-run image args given order limits ls e f = ap (λ a. image_account image a order ls) e ∙ ap (image_account image args order) f

pub returns-then-args-params : goal.returns-then-args-params
returns-then-args-params g c =
    let words = subst (AreBelow (2 ^ 32)) c.words.ensures.value c.are_words.ensures.below in
    let request = request_of c.args.job.now c.args.order in
    record {
      done = λ bytes is.
          said-done _ _ _ _ (AnswerTo request bytes) ending.Usage c.say.result (usage_line ArgsCount)
          (due (of_image c.requires.mode (wrong_count (record { in_range = c.words.ensures.in_range; words = words; file = is }) (λ e.
          c.if-args-params.true (ap length c.args-args.ensures.value ∙ e ∙ sym c.params.ensures.value))))) c.say.ensures.said;
      machine = λ bytes is.
          unanswered-keeps (LeavesMachine request bytes) c.say.result _
          (said-unanswered ending.Usage c.say.result (usage_line ArgsCount) _ _ _ _ c.say.ensures.said refl);
    }

pub returns : goal.returns
returns g c =
    let image = c.args.image.now in
    let request = request_of c.args.job.now c.args.order in
    let told = image_account image c.args-args.result.now c.args.order c.limits.result in
    let same = same-run image c.args.job.now.args c.args-args.result.now c.args.order c.args.job.now.limits c.limits.result c.args-args.ensures.value
    c.limits.ensures.value in
    let words = subst (AreBelow (2 ^ 32)) c.words.ensures.value c.are_words.ensures.below in
    let asks : (bytes : List ℕ) → bytes ≡ image_bytes image → AsksImage request bytes image = λ bytes is. record {
      mode = c.requires.mode;
      spelled = record { in_range = c.words.ensures.in_range; words = words; file = is };
      one_each = ap length (sym c.args-args.ensures.value) ∙ c.if-args-params.false ∙ c.params.ensures.value;
    } in
    record {
      done = λ bytes is.
          done-more _ _ _ _ (SaysRun told) (AnswerTo request bytes) c.answer_exec.result
          (λ meant text says. image_ran (asks bytes is) (subst (λ a. SaysRun a meant text) same says))
          (c.answer_exec.ensures.done told (g.K.Sink.taken c.args.out.now) (g.K.Sink.faults c.args.out.now) c.run_image-exec.ensures.text
          c.run_image-exec.ensures.counted);
      machine = λ bytes is.
          image-hands request bytes image (asks bytes is) c.answer_exec.result _ _
          (c.run_image-exec.ensures.machine ∙ ap (λ w. handed_out w told.machine c.args.machine.now) (sym c.answer_exec.ensures.answered)
          ∙ ap (λ (a : Account). handed_out (has_answered c.answer_exec.result) a.machine c.args.machine.now) same);
    }
