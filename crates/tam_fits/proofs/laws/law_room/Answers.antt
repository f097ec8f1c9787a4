use Rattle.tam_fits.proofs.laws.law_room.Goals as goal
use Rattle.tam_fits.proofs.LiveRuns.{suffice-alike, images-quiet}
use Rattle.tam_fits.proofs.Reporting.{right-tame}
use Rattle.tl0_keep.proofs.giving.All.{right}
use Rattle.tl0_keep.proofs.whole.Laws.{kept}
use Rattle.tl0_keep.proofs.whole.Quiet.{room-is-quiet}

pub returns-clause-room : goal.returns-clause-room
returns-clause-room c = images-quiet (right-tame (right kept)) (room-is-quiet (right kept))

pub returns-clause-alike : goal.returns-clause-alike
returns-clause-alike c = suffice-alike (right-tame (right kept))
