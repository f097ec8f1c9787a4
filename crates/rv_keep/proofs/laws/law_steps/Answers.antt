use Rattle.rv_keep.proofs.laws.law_steps.Goals as goal
use Rattle.rv_keep.proofs.RunCounts.{polls-counted, runs-counted, steps-exact}

pub returns-clause-few : goal.returns-clause-few
returns-clause-few c = polls-counted

pub returns-clause-left : goal.returns-clause-left
returns-clause-left c = runs-counted

pub returns-clause-exact : goal.returns-clause-exact
returns-clause-exact c = steps-exact
