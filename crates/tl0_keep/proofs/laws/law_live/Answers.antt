use Rattle.tl0_keep.proofs.laws.law_live.Goals as goal
use Rattle.tl0_keep.proofs.whole.Live.{live-frames-owe, live-are-few}

pub returns-clause-owe : goal.returns-clause-owe
returns-clause-owe c = live-frames-owe

pub returns-clause-few : goal.returns-clause-few
returns-clause-few c = live-are-few
