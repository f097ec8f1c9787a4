use Rattle.std.proofs.Common.{◌∙◌}
use Rattle.tam_quotient.proofs.Tabling.{list_any-has}
use Rattle.tam_quotient.proofs.block.has.Goals as goal

pub returns : goal.returns
returns c = record { value = c.contains.ensures.value ∙ list_any-has c.args.places.now c.args.place }
