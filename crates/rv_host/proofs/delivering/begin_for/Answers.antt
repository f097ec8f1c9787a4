use Rattle.std.proofs.Common.{arith}
use Rattle.rv_host.proofs.delivering.begin_for.Goals as goal

pub take-number-requires : goal.take-number-requires
take-number-requires c = record { room = omega (arith, c.count.ensures.value, c.count.ensures.within, c.if-count-limits.false, c.requires.kept.frames) }
