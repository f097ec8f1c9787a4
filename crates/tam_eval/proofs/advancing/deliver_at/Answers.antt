use Rattle.tam_eval.proofs.advancing.deliver_at.Goals as goal

pub returns-clause-outcome : goal.returns-clause-outcome
returns-clause-outcome c = λ order before printed.
    rw c.take-message.ensures.value (rw c.take-message.ensures.rest at (c.deliver.ensures.outcome order printed))
