use Rattle.std.proofs.Common.{◌∙◌, ap, sym}
use Rattle.std.specs.Str.{bytes_eq}
use Rattle.tam_text.proofs.SameBytes.{same_bytes_is}
use Rattle.tam_graph.proofs.name.Name.is.Goals as goal

pub returns : goal.returns
returns c = record { value = c.eq.ensures ∙ (ap (bytes_eq c.args.bytes.now) c.bytes.ensures.value ∙ sym (same_bytes_is c.args.bytes.now c.args.self.now)) }
