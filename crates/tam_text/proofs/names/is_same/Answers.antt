use Rattle.std.proofs.Common.{sym, ◌∙◌}
use Rattle.tam_text.proofs.SameBytes.{same_bytes_is}
use Rattle.tam_text.proofs.names.is_same.Goals as goal

pub returns : goal.returns
returns c = record { value = c.eq.ensures ∙ sym (same_bytes_is c.args.first.now c.args.second.now) }
