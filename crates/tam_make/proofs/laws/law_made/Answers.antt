use Rattle.tam_make.proofs.Made.{made-accepted}
use Rattle.tam_make.proofs.laws.law_made.Goals as goal

pub returns : goal.returns
returns c = record { accepted = made-accepted }
