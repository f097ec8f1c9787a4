use Rattle.std.proofs.Common.{◌∙◌, refl, ap, ap₂}
use Rattle.tam_input.proofs.Found.{if-ok}
use Rattle.tam_input.specs.Inputs.{request_of}
use Rattle.tam_input.specs.Refusing.{no_memory_line}
use Rattle.tam.specs.AnswerLines.{refused_line, read_cause_name}
use Rattle.tam_input.specs.declared.ending.Ending.TheVariants as ending
use Rattle.tam.specs.GraphAnswers.{not_graph}
use Rattle.tam.specs.Due.{of_graph}
use Rattle.tam.specs.Answers.{AnswerTo, due, wanted}
use Rattle.tam.specs.Machines.{LeavesMachine}
use Rattle.tam.proofs.Saying.{said-done, made-done}
use Rattle.tam.proofs.Running.{said-unanswered}
use Rattle.tam.proofs.Handing.{unanswered-keeps, made-unanswered}
use Rattle.tam.proofs.graph_text.answer_graph_text.Goals as goal

pub returns-in-Err-At : goal.returns-in-Err-At
returns-in-Err-At g c = record {
  done = made-done _ _ _ _ (AnswerTo (request_of c.args.job.now c.args.order) c.args.text.now) ending.Refused c.say_made.result c.refused_line.result
      (refused_line c.in-Err-At.line (read_cause_name c.in-Err-At.cause))
      (due (of_graph c.requires.graph (not_graph (rw c.in-Err-At.field-0-is at c.in-Err-At.ensures.refused)))) wanted
      (if-ok c.refused_line.result (λ t e. e ∙ ap₂ refused_line c.in-Err-At.line-is
      (c.read_cause_name.ensures.value ∙ ap read_cause_name c.in-Err-At.cause-is)) c.refused_line.ensures.value) c.say_made.ensures.said;
  machine = unanswered-keeps (LeavesMachine (request_of c.args.job.now c.args.order) c.args.text.now) c.say_made.result _
      (made-unanswered ending.Refused c.say_made.result c.refused_line.result _ _ _ _ refl c.say_made.ensures.said);
}

pub returns : goal.returns
returns g c = record {
  done = said-done _ _ _ _ (AnswerTo (request_of c.args.job.now c.args.order) c.args.text.now) ending.NoMemory c.say_no_memory.result _ wanted
      c.say_no_memory.ensures.said;
  machine = unanswered-keeps (LeavesMachine (request_of c.args.job.now c.args.order) c.args.text.now) c.say_no_memory.result _
      (said-unanswered ending.NoMemory c.say_no_memory.result no_memory_line _ _ _ _ c.say_no_memory.ensures.said refl);
}
