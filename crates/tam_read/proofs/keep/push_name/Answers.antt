use Rattle.tam_read.proofs.Sets.{pushed-key}
use Rattle.tam_read.proofs.keep.push_name.Goals as goal

pub returns : goal.returns
returns c = record { ok = pushed-key c.args.name c.args.names.now.keys c.insert.new.self.keys c.requires.new c.in_ok-insert.ensures.keys }
