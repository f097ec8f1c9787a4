use Rattle.std.proofs.Common.{sym, ◌∙◌}
use Rattle.tam_read.proofs.Sets.{kept-keys}
use Rattle.tam_read.proofs.pass.is_kept.Goals as goal

pub returns : goal.returns
returns c = record { value = c.contains.ensures ∙ sym (kept-keys c.args.name.now c.args.others.now.keys) }
