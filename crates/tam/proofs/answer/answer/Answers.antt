use Rattle.std.proofs.Common.{refl, sym}
use Rattle.tam_words.specs.declared.mode.Mode.TheVariants as mode
use Rattle.tam_input.specs.Inputs.{request_of}
use Rattle.tam.proofs.Handing.{mode-keeps}
use Rattle.tam.proofs.answer.answer.Goals as goal

pub returns-in-Assemble-clause-machine : goal.returns-in-Assemble-clause-machine
returns-in-Assemble-clause-machine g c =
    mode-keeps (request_of c.args.input.job c.args.input.order) c.args.input.text.items mode.Assemble c.answer_assembly_text.result _
    (sym c.in-Assemble.ensures.value) refl

pub returns-in-ExecTl0-clause-machine : goal.returns-in-ExecTl0-clause-machine
returns-in-ExecTl0-clause-machine g c =
    mode-keeps (request_of c.args.input.job c.args.input.order) c.args.input.text.items mode.ExecTl0 c.answer_code_text.result _
    (sym c.in-ExecTl0.ensures.value) refl
