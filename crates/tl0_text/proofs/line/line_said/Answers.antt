-- Of too many tokens nothing is said.
use Rattle.std.proofs.Common.{arith}
use Rattle.tl0_text.proofs.Lines.{five_tokens}
use Rattle.tl0_text.proofs.line.line_said.Goals as goal

pub returns-in-len5-up : goal.returns-in-len5-up
returns-in-len5-up c = record { value = five_tokens c.args.form c.args.tokens.now (omega arith) }
