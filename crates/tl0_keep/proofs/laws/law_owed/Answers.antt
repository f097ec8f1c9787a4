use Rattle.tl0_keep.proofs.laws.law_owed.Goals as goal
use Rattle.tl0_keep.proofs.whole.Owed.{owes-exactly, live-owe-exactly, live-have-more, owes-no-more}

pub returns-clause-kept : goal.returns-clause-kept
returns-clause-kept c = owes-exactly

pub returns-clause-live : goal.returns-clause-live
returns-clause-live c = live-owe-exactly

pub returns-clause-more : goal.returns-clause-more
returns-clause-more c = live-have-more

pub returns-clause-no_more : goal.returns-clause-no_more
returns-clause-no_more c = owes-no-more
