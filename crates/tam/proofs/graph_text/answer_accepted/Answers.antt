use Rattle.std.proofs.Common.{◌∙◌, refl, sym, ap}
use Rattle.tam_graph.specs.Texts.{canonical}
use Rattle.tam_input.proofs.Found.{if-ok}
use Rattle.tam_list.specs.Listings.{check_text, sets_text, parts_text}
use Rattle.tl0_code.specs.CodeTexts.{program_text}
use Rattle.tl0_keep.specs.Compiled.{compiled}
use Rattle.rv_keep.specs.Image.{image_of}
use Rattle.rv_image.specs.ImageFiles.{image_bytes}
use Rattle.rv_asm.specs.AsmText.{asm_text}
use Rattle.tam_words.specs.declared.mode.Mode.TheVariants as mode
use Rattle.tam_input.specs.Inputs.{request_of}
use Rattle.tam_input.specs.declared.ending.Ending.TheVariants as ending
use Rattle.tam.specs.GraphAnswers.{listed, listing, level_of}
use Rattle.tam.specs.Due.{of_graph}
use Rattle.tam.specs.Answers.{AnswerTo, due, wanted}
use Rattle.tam.proofs.Saying.{made-done}
use Rattle.tam.proofs.Handing.{mode-keeps}
use Rattle.tam.proofs.graph_text.answer_accepted.Goals as goal

pub run_graph-requires : goal.run_graph-requires
run_graph-requires g c = record { mode = ap level_of (sym c.in-Graph.ensures.value) }

pub run_graph-requires-in-Tl0 : goal.run_graph-requires-in-Tl0
run_graph-requires-in-Tl0 g c = record { mode = ap level_of (sym c.in-Tl0.ensures.value) }

pub run_graph-requires-in-Rv32 : goal.run_graph-requires-in-Rv32
run_graph-requires-in-Rv32 g c = record { mode = ap level_of (sym c.in-Rv32.ensures.value) }

pub returns-in-Check : goal.returns-in-Check
returns-in-Check g c = record {
  done = λ bytes spelled.
      made-done _ _ _ _ (AnswerTo (request_of c.args.job.now c.args.order) bytes) ending.Done c.say_made.result c.print_check.result
      (check_text c.args.graph.now)
      (due (of_graph c.requires.graph (listed spelled (ap (λ m. listing m c.args.graph.now) (sym c.in-Check.ensures.value))))) wanted
      c.print_check.ensures.value c.say_made.ensures.said;
  machine = λ bytes spelled.
      mode-keeps (request_of c.args.job.now c.args.order) bytes mode.Check c.say_made.result _ (sym c.in-Check.ensures.value) refl;
}

pub returns-in-EmitDg : goal.returns-in-EmitDg
returns-in-EmitDg g c = record {
  done = λ bytes spelled.
      made-done _ _ _ _ (AnswerTo (request_of c.args.job.now c.args.order) bytes) ending.Done c.say_made-in-EmitDg.result c.print.result
      (canonical c.args.graph.now)
      (due (of_graph c.requires.graph (listed spelled (ap (λ m. listing m c.args.graph.now) (sym c.in-EmitDg.ensures.value))))) wanted
      (if-ok c.print.result (λ t e. e ∙ ap canonical c.graph.ensures.value) c.print.ensures.value) c.say_made-in-EmitDg.ensures.said;
  machine = λ bytes spelled.
      mode-keeps (request_of c.args.job.now c.args.order) bytes mode.EmitDg c.say_made-in-EmitDg.result _ (sym c.in-EmitDg.ensures.value) refl;
}

pub returns-in-Sets : goal.returns-in-Sets
returns-in-Sets g c = record {
  done = λ bytes spelled.
      made-done _ _ _ _ (AnswerTo (request_of c.args.job.now c.args.order) bytes) ending.Done c.say_made-in-Sets.result c.print_sets.result
      (sets_text c.args.graph.now)
      (due (of_graph c.requires.graph (listed spelled (ap (λ m. listing m c.args.graph.now) (sym c.in-Sets.ensures.value))))) wanted
      c.print_sets.ensures.value c.say_made-in-Sets.ensures.said;
  machine = λ bytes spelled.
      mode-keeps (request_of c.args.job.now c.args.order) bytes mode.Sets c.say_made-in-Sets.result _ (sym c.in-Sets.ensures.value) refl;
}

pub returns-in-Parts : goal.returns-in-Parts
returns-in-Parts g c = record {
  done = λ bytes spelled.
      made-done _ _ _ _ (AnswerTo (request_of c.args.job.now c.args.order) bytes) ending.Done c.say_made-in-Parts.result c.print_parts.result
      (parts_text c.args.graph.now)
      (due (of_graph c.requires.graph (listed spelled (ap (λ m. listing m c.args.graph.now) (sym c.in-Parts.ensures.value))))) wanted
      c.print_parts.ensures.value c.say_made-in-Parts.ensures.said;
  machine = λ bytes spelled.
      mode-keeps (request_of c.args.job.now c.args.order) bytes mode.Parts c.say_made-in-Parts.result _ (sym c.in-Parts.ensures.value) refl;
}

pub returns-in-EmitTl0 : goal.returns-in-EmitTl0
returns-in-EmitTl0 g c = record {
  done = λ bytes spelled.
      made-done _ _ _ _ (AnswerTo (request_of c.args.job.now c.args.order) bytes) ending.Done c.say_made-in-EmitTl0.result c.thread_text.result
      (program_text (compiled c.args.graph.now))
      (due (of_graph c.requires.graph (listed spelled (ap (λ m. listing m c.args.graph.now) (sym c.in-EmitTl0.ensures.value))))) wanted
      c.thread_text.ensures.value c.say_made-in-EmitTl0.ensures.said;
  machine = λ bytes spelled.
      mode-keeps (request_of c.args.job.now c.args.order) bytes mode.EmitTl0 c.say_made-in-EmitTl0.result _ (sym c.in-EmitTl0.ensures.value) refl;
}

pub returns-in-EmitAsm : goal.returns-in-EmitAsm
returns-in-EmitAsm g c = record {
  done = λ bytes spelled.
      made-done _ _ _ _ (AnswerTo (request_of c.args.job.now c.args.order) bytes) ending.Done c.say_made-in-EmitAsm.result c.assembly_text.result
      (asm_text (image_of (compiled c.args.graph.now)))
      (due (of_graph c.requires.graph (listed spelled (ap (λ m. listing m c.args.graph.now) (sym c.in-EmitAsm.ensures.value))))) wanted
      c.assembly_text.ensures.value c.say_made-in-EmitAsm.ensures.said;
  machine = λ bytes spelled.
      mode-keeps (request_of c.args.job.now c.args.order) bytes mode.EmitAsm c.say_made-in-EmitAsm.result _ (sym c.in-EmitAsm.ensures.value) refl;
}

pub returns-in-EmitImage : goal.returns-in-EmitImage
returns-in-EmitImage g c = record {
  done = λ bytes spelled.
      made-done _ _ _ _ (AnswerTo (request_of c.args.job.now c.args.order) bytes) ending.Done c.say_made-in-EmitImage.result c.image_file.result
      (image_bytes (image_of (compiled c.args.graph.now)))
      (due (of_graph c.requires.graph (listed spelled (ap (λ m. listing m c.args.graph.now) (sym c.in-EmitImage.ensures.value))))) wanted
      c.image_file.ensures.value c.say_made-in-EmitImage.ensures.said;
  machine = λ bytes spelled.
      mode-keeps (request_of c.args.job.now c.args.order) bytes mode.EmitImage c.say_made-in-EmitImage.result _ (sym c.in-EmitImage.ensures.value) refl;
}
