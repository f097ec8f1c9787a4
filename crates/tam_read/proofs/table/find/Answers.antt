use Rattle.std.proofs.Common.{sym, ◌∙◌}
use Rattle.tam_read.proofs.Tabled.{found-lookup}
use Rattle.tam_read.proofs.table.find.Goals as goal

pub returns : goal.returns
returns c = record { value = c.copied.ensures ∙ (c.get.ensures.value ∙ found-lookup c.args.name.now c.args.names.now.entries.entries) }
