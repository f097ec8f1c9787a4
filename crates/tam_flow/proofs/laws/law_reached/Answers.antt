use Rattle.tam_flow.proofs.JournalsReached.{journals-reached}
use Rattle.tam_flow.proofs.laws.law_reached.Goals as goal

pub returns : goal.returns
returns c = record { reached = journals-reached }
