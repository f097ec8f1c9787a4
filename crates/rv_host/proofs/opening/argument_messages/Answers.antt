use Rattle.std.proofs.Common.{add-one}
use Rattle.rv_host.proofs.Arguments.{arguments-next}
use Rattle.rv_host.proofs.opening.argument_messages.Goals as goal

pub loop-place-preserved : goal.loop-place-preserved
loop-place-preserved c =
    rw (add-one, arguments-next c.args.args.now c.loop-place.place c.loop-place-test.true, ← c.loop-place.invariant) c.in_ok-send.ensures.ok
