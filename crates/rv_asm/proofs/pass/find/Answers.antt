-- A look-up finds the label.
use Rattle.std.proofs.Common.{◌∙◌}
use Rattle.rv_asm.proofs.Labelled.{found-lookup}
use Rattle.rv_asm.proofs.pass.find.Goals as goal

pub returns : goal.returns
returns c = record { value = c.copied.ensures ∙ (c.get.ensures.value ∙ found-lookup c.args.name.now c.args.labels.now.entries) }
