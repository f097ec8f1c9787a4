use Rattle.std.proofs.Common.{sym, ◌∙◌}
use Rattle.tam_check.proofs.InterfaceTests.{ins-agree}
use Rattle.tam_check.proofs.depths.branch_agrees.Goals as goal

pub returns : goal.returns
returns c = record { value = c.all_agree.ensures.value ∙ sym (ins-agree c.args.tables.now.code.now c.args.place c.args.depth c.args.block) }
