use Rattle.std.proofs.Common.{◌∙◌, refl, ap, ap₂}
use Rattle.tam_read.specs.Placed.{line_at, lines_in}
use Rattle.tam_input.proofs.Found.{if-ok}
use Rattle.tam_input.specs.Inputs.{request_of}
use Rattle.tam_input.specs.Refusing.{no_memory_line}
use Rattle.tam.specs.AnswerLines.{refused_line, check_cause_name}
use Rattle.tam_input.specs.declared.ending.Ending.TheVariants as ending
use Rattle.tam.specs.GraphAnswers.{not_accepted}
use Rattle.tam.specs.Due.{of_graph}
use Rattle.tam.specs.Answers.{AnswerTo, due, wanted}
use Rattle.tam.specs.Machines.{LeavesMachine}
use Rattle.tam.proofs.Saying.{said-done, made-done}
use Rattle.tam.proofs.Running.{said-unanswered}
use Rattle.tam.proofs.Handing.{unanswered-keeps, made-unanswered}
use Rattle.tam.proofs.graph_text.answer_found.Goals as goal

pub returns-in-Err-default-At : goal.returns-in-Err-default-At
returns-in-Err-default-At g c = record {
  done = λ bytes reads lines.
      let told = c.in-Err-default-At in
      made-done _ _ _ _ (AnswerTo (request_of c.args.job.now c.args.order) bytes) ending.Refused c.say_made.result c.refused_line.result
      (refused_line (line_at (lines_in bytes) told.place) (check_cause_name told.cause))
      (due (of_graph c.requires.graph (not_accepted reads (rw told.field-0-1-is at told.ensures.refused)))) wanted
      (if-ok c.refused_line.result (λ t e. e ∙ ap₂ refused_line
      (c.line-line.ensures.value ∙ ap (line_at c.args.found.lines) told.place-is ∙ ap (λ l. line_at l told.place) lines)
      (c.check_cause_name.ensures.value ∙ ap check_cause_name told.cause-is))
      c.refused_line.ensures.value) c.say_made.ensures.said;
  machine = λ bytes reads.
      unanswered-keeps (LeavesMachine (request_of c.args.job.now c.args.order) bytes) c.say_made.result _
      (made-unanswered ending.Refused c.say_made.result c.refused_line.result _ _ _ _ refl c.say_made.ensures.said);
}

pub returns : goal.returns
returns g c = record {
  done = λ bytes reads lines.
      said-done _ _ _ _ (AnswerTo (request_of c.args.job.now c.args.order) bytes) ending.NoMemory c.say_no_memory.result _ wanted c.say_no_memory.ensures.said;
  machine = λ bytes reads.
      unanswered-keeps (LeavesMachine (request_of c.args.job.now c.args.order) bytes) c.say_no_memory.result _
      (said-unanswered ending.NoMemory c.say_no_memory.result no_memory_line _ _ _ _ c.say_no_memory.ensures.said refl);
}
