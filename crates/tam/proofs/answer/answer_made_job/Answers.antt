use Rattle.std.proofs.Common.{◌∙◌, sym, subst}
use Rattle.tam_input.specs.Inputs.{request_of}
use Rattle.tam.specs.MadeRuns.{SaysMade}
use Rattle.tam.specs.Answers.{AnswerTo, made}
use Rattle.tam.specs.Machines.{HandsMade}
use Rattle.tam.proofs.Saying.{done-more}
use Rattle.tam.proofs.Handing.{made-hands}
use Rattle.tam.proofs.answer.answer_made_job.Goals as goal

pub returns : goal.returns
returns g c = record {
  done = λ order bytes.
      done-more _ _ _ _ (SaysMade c.in-Some.shape c.count.result) (AnswerTo (request_of c.args.job.now order) bytes) c.answer_made.result
      (λ meant text says. made c.requires.mode (sym c.shape.ensures.value ∙ c.in-Some.is)
      (subst (λ k. SaysMade c.in-Some.shape k meant text) c.count.ensures.value says))
      c.answer_made.ensures.done;
  machine = λ order bytes.
      made-hands (request_of c.args.job.now order) bytes c.in-Some.shape c.requires.mode (sym c.shape.ensures.value ∙ c.in-Some.is) c.answer_made.result _ _
      (subst (λ k. HandsMade c.in-Some.shape k c.answer_made.result c.args.machine.now c.answer_made.new.machine) c.count.ensures.value
      c.answer_made.ensures.machine);
}
