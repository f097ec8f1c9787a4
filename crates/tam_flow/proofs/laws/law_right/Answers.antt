use Rattle.tam_flow.proofs.laws.law_right.Goals as goal
use Rattle.tam_flow.proofs.RightJournals.{borne-right}

pub returns : goal.returns
returns c = record { right = borne-right }
