use Rattle.tam_fits.proofs.laws.law_given.Goals as goal
use Rattle.tam_fits.proofs.LiveRuns.{images-name, images-free, images-leave}
use Rattle.tam_fits.proofs.Reporting.{right-tame}
use Rattle.tl0_keep.proofs.giving.All.{right, renaming, unnamed}
use Rattle.tl0_keep.proofs.whole.Laws.{kept}

pub returns-clause-names : goal.returns-clause-names
returns-clause-names c = images-name (right-tame (right kept)) (unnamed kept)

pub returns-clause-free : goal.returns-clause-free
returns-clause-free c = images-free (right-tame (right kept)) (renaming kept)

pub returns-clause-left : goal.returns-clause-left
returns-clause-left c = images-leave (right-tame (right kept)) (unnamed kept)
