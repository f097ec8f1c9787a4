-- A statement whose first fault isn't there has none.
use Rattle.rv_asm.proofs.Soundness.{none_taken}
use Rattle.rv_asm.proofs.pass.statement_said.Goals as goal

pub put_statement-requires-clause-faultless : goal.put_statement-requires-clause-faultless
put_statement-requires-clause-faultless c = none_taken _ c.in_default.ensures.value
