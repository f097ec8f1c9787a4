use Rattle.std.proofs.Common.{◌∙◌, ap}
use Rattle.std.specs.Prelude.{slice_get}
use Rattle.tl0_code.specs.ThreadCode.{CodeText}
use Rattle.tl0_machine.proofs.CheckedCode.{found-named}
use Rattle.tl0_machine.proofs.code_table.CodeTable.inlet.Goals as goal

pub returns-clause-named : goal.returns-clause-named
returns-clause-named c =
    found-named c.args.self.now c.code.ensures.checked c.args.code c.requires.there c.args.inlet c.inlet_at.result
    (c.inlet_at.ensures.value ∙ ap (λ inlets. slice_get inlets c.args.inlet) (c.inlets.ensures.value ∙ ap (λ (t : CodeText). t.inlets) c.code.ensures.value))
