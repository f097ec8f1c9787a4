use Rattle.std.proofs.Common.{◌∙◌, ap, ap₂, refl}
use Rattle.tam_input.proofs.Found.{if-ok}
use Rattle.tam_input.specs.Inputs.{request_of}
use Rattle.tam_input.specs.Refusing.{no_memory_line}
use Rattle.tam_input.specs.declared.ending.Ending.TheVariants as ending
use Rattle.tam.specs.AnswerLines.{refused_byte_line, image_cause_name}
use Rattle.tam.specs.ImageAnswers.{not_image}
use Rattle.tam.specs.Due.{of_image}
use Rattle.tam.specs.Answers.{AnswerTo, due, wanted}
use Rattle.tam.specs.Machines.{LeavesMachine}
use Rattle.tam.proofs.Saying.{said-done, made-done}
use Rattle.tam.proofs.Running.{said-unanswered}
use Rattle.tam.proofs.Handing.{unanswered-keeps, made-unanswered}
use Rattle.tam.proofs.image_run.answer_image_file.Goals as goal

pub returns-in-Err-Bad : goal.returns-in-Err-Bad
returns-in-Err-Bad g c =
    let request = request_of c.args.job.now c.args.order in
    record {
      done = made-done _ _ _ _ (AnswerTo request c.args.file.now) ending.Refused c.say_made.result c.refused_byte_line.result
          (refused_byte_line c.in-Err-Bad.at (image_cause_name c.in-Err-Bad.cause))
          (due (of_image c.requires.mode (not_image (rw c.in-Err-Bad.field-0-is at c.in-Err-Bad.ensures.value)))) wanted
          (if-ok c.refused_byte_line.result (λ t e. e ∙ ap₂ refused_byte_line c.in-Err-Bad.at-is
          (c.image_cause_name.ensures.value ∙ ap image_cause_name c.in-Err-Bad.cause-is)) c.refused_byte_line.ensures.value) c.say_made.ensures.said;
      machine = unanswered-keeps (LeavesMachine request c.args.file.now) c.say_made.result _
          (made-unanswered ending.Refused c.say_made.result c.refused_byte_line.result _ _ _ _ refl c.say_made.ensures.said);
    }

pub returns : goal.returns
returns g c =
    let request = request_of c.args.job.now c.args.order in
    record {
      done = said-done _ _ _ _ (AnswerTo request c.args.file.now) ending.NoMemory c.say_no_memory.result _ wanted c.say_no_memory.ensures.said;
      machine = unanswered-keeps (LeavesMachine request c.args.file.now) c.say_no_memory.result _
          (said-unanswered ending.NoMemory c.say_no_memory.result no_memory_line _ _ _ _ c.say_no_memory.ensures.said refl);
    }
