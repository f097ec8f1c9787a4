use Rattle.tam_fits.proofs.laws.law_in_time.Goals as goal
use Rattle.tam_fits.proofs.GraphTimes.{graph-comes, graph-start, graph-between}
use Rattle.tam_fits.proofs.Reporting.{right-tame}
use Rattle.tl0_keep.proofs.giving.All.{right}
use Rattle.tl0_keep.proofs.whole.Laws.{kept}

pub returns-clause-comes : goal.returns-clause-comes
returns-clause-comes c = graph-comes (right-tame (right kept))

pub returns-clause-start : goal.returns-clause-start
returns-clause-start c = graph-start

pub returns-clause-polls : goal.returns-clause-polls
returns-clause-polls c = graph-between (right-tame (right kept))
