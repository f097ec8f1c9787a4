-- Tokens of no form.
use Rattle.std.proofs.Common.{arith}
use Rattle.rv_asm.proofs.Forms.{two_tokens, four_tokens, too_many_tokens}
use Rattle.rv_asm.proofs.form.said_by.Goals as goal

pub returns-in-len2 : goal.returns-in-len2
returns-in-len2 c = record { value = two_tokens c.args.verb c.args.tokens.now (omega arith) }

pub returns-in-len4 : goal.returns-in-len4
returns-in-len4 c = record { value = four_tokens c.args.verb c.args.tokens.now (omega arith) }

pub returns-in-len6-up : goal.returns-in-len6-up
returns-in-len6-up c = record { value = too_many_tokens c.args.verb c.args.tokens.now (omega arith) }
