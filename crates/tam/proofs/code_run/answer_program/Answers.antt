use Rattle.std.proofs.Common.{◌≡◌, ◌∙◌, ap}
use Rattle.tam_input.proofs.Found.{if-ok}
use Rattle.tam_input.specs.Inputs.{request_of}
use Rattle.tam_input.specs.declared.ending.Ending.TheVariants as ending
use Rattle.tl0_check.specs.FirstFault.{fault_told}
use Rattle.tam.specs.CodeAnswers.{code_fault_line, not_checked}
use Rattle.tam.specs.Due.{of_code}
use Rattle.tam.specs.Answers.{AnswerTo, due, wanted}
use Rattle.tam.proofs.Saying.{made-done}
use Rattle.tam.proofs.code_run.answer_program.Goals as goal

pub returns-in-Err : goal.returns-in-Err
returns-in-Err g c = record {
  done = λ bytes reads.
      let p = c.args.program in
      let fault = fault_told c.in-Err.error in
      let same : c.in-Err.program ≡ p = c.in-Err.ensures.kept in
      made-done _ _ _ _ (AnswerTo (request_of c.args.job.now c.args.order) bytes) ending.Refused c.say_made.result c.fault_line.result
      (code_fault_line p fault) (due (of_code c.requires.mode (not_checked reads c.in-Err.ensures.refused))) wanted
      (if-ok c.fault_line.result (λ t e. e ∙ ap (code_fault_line c.in-Err.program) c.parts_of.ensures.value ∙ ap (λ q. code_fault_line q fault) same)
      c.fault_line.ensures.value) c.say_made.ensures.said;
}
