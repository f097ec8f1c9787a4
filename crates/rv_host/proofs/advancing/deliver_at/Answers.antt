use Rattle.std.proofs.Common.{arith}
use Rattle.rv_host.proofs.advancing.deliver_at.Goals as goal

pub overflow_add-state : goal.overflow_add-state
overflow_add-state c = omega (arith, c.requires.events, c.requires.limits.budget)

pub returns-clause-value : goal.returns-clause-value
returns-clause-value c = λ image before order printed live results marked are.
    rw c.take-message.ensures.value (rw c.take-message.ensures.rest at (c.deliver.ensures.value image order printed live results marked are))
