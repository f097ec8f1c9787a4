-- Where a token stands behind it there is no label.
use Rattle.std.proofs.Common.{arith}
use Rattle.rv_asm.proofs.Forms.{no_label_there}
use Rattle.rv_asm.proofs.form.label_in.Goals as goal

pub returns-in-len1-up : goal.returns-in-len1-up
returns-in-len1-up c = record { value = no_label_there c.args.token.now c.args.others.now (omega arith) }
