use Rattle.std.proofs.Common.{◌∙◌, sym}
use Rattle.tam_check.proofs.InterfaceTests.{params-agree}
use Rattle.tam_check.proofs.depths.params_agree.Goals as goal

pub returns-else-callee-codes : goal.returns-else-callee-codes
returns-else-callee-codes c = record {
  value = rw (← c.border.ensures.code) (c.params_agree.ensures.value ∙ sym (params-agree c.border.result.code.now c.args.place c.args.depth));
}
