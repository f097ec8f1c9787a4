-- The bounds of the instructions of an image's run, for accepted graphs.
use Rattle.std.proofs.Common.{◌+◌, ◌≡◌, refl, subst}
use Rattle.tam_msgs.specs.Runs.{Outcome, Next}
use Rattle.tl0_code.specs.Machines.{Machine}
use Rattle.rv_keep.specs.Hosts.{Host, Reached, At_poll, Stopped}
use Rattle.rv_keep.specs.MachineLaws.{SamePoint, thread_after, poll_after}
use Rattle.tam_fits.proofs.Agreeing.{graph-agrees}
use Rattle.tl0_keep.specs.Compiled.{compiled}
use Rattle.rv_keep.proofs.Bounding.{start-bounded, polls-bounded}
use Rattle.tam_fits.specs.Fits.{RunsAreTame}
use Rattle.tam_fits.specs.GraphBounds.{GraphPollsCome, GraphStartBounded, GraphPollsBounded}
use Rattle.tam_fits.proofs.Fitting.{code-fits}

-- up to the first poll
pub graph-start : GraphStartBounded
graph-start g args order limits s job e = start-bounded (compiled g) args order limits (code-fits g args limits job) s e

-- and between two polls
pub graph-between : RunsAreTame → GraphPollsBounded
graph-between tame g args order limits n m s t job e q h =
    polls-bounded (compiled g) args order limits (code-fits g args limits job) n m s t e q h (tame g args order limits (n + 1) job)

-- a poll that makes the event of a thread run that goes on is there
stands-at-poll : (m : Machine) (r : Reached) → SamePoint (Next m) r → (s : Host) × (r ≡ At_poll s)
stands-at-poll m (At_poll s) a = (s, refl)
stands-at-poll m (Stopped how s) a = absurd a

-- each poll comes
pub graph-comes : RunsAreTame → GraphPollsCome
graph-comes tame g args order limits n m job e =
    let agrees = graph-agrees g args order limits n job (tame g args order limits n job) in
    stands-at-poll m (poll_after (compiled g) args order limits n)
    (subst (λ (o : Outcome Machine). SamePoint o (poll_after (compiled g) args order limits n)) e agrees)
