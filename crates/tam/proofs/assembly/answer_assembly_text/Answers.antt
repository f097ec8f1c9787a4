use Rattle.std.proofs.Common.{◌∙◌, ap, ap₂}
use Rattle.rv_image.specs.ImageFiles.{image_bytes}
use Rattle.tam_input.proofs.Found.{if-ok}
use Rattle.tam.specs.AnswerLines.{refused_line, asm_cause_name}
use Rattle.tam_input.specs.declared.ending.Ending.TheVariants as ending
use Rattle.tam.specs.Due.{of_assembly, not_assembled, assembled}
use Rattle.tam.specs.Answers.{AnswerTo, due, wanted}
use Rattle.tam.proofs.Saying.{said-done, made-done}
use Rattle.tam.proofs.assembly.answer_assembly_text.Goals as goal

pub returns-in-Ok : goal.returns-in-Ok
returns-in-Ok g c = record {
  done = λ ask mode.
      made-done _ _ _ _ (AnswerTo ask c.args.text.now) ending.Done c.say_made.result c.write_image.result (image_bytes c.in-Ok.image)
      (due (of_assembly mode (assembled c.in-Ok.ensures.reads))) wanted c.write_image.ensures.value c.say_made.ensures.said;
}

pub returns-in-Err-At : goal.returns-in-Err-At
returns-in-Err-At g c = record {
  done = λ ask mode.
      made-done _ _ _ _ (AnswerTo ask c.args.text.now) ending.Refused c.say_made-in-Err-At.result c.refused_line.result
      (refused_line c.in-Err-At.line (asm_cause_name c.in-Err-At.cause))
      (due (of_assembly mode (not_assembled (rw c.in-Err-At.field-0-is at c.in-Err-At.ensures.refused)))) wanted
      (if-ok c.refused_line.result (λ t e. e ∙ ap₂ refused_line c.in-Err-At.line-is
      (c.asm_cause_name.ensures.value ∙ ap asm_cause_name c.in-Err-At.cause-is)) c.refused_line.ensures.value) c.say_made-in-Err-At.ensures.said;
}

pub returns-in-Err-NoMemory : goal.returns-in-Err-NoMemory
returns-in-Err-NoMemory g c = record {
  done = λ ask mode. said-done _ _ _ _ (AnswerTo ask c.args.text.now) ending.NoMemory c.say_no_memory.result _ wanted c.say_no_memory.ensures.said;
}
