-- A line and what stands behind it are as long as the rest.
use Rattle.std.proofs.Common.{arith}
use Rattle.tl0_text.proofs.Looping.{split-length}
use Rattle.tl0_text.proofs.pass.thread_len.Goals as goal

pub loop-rest-preserved : goal.loop-rest-preserved
loop-rest-preserved c =
    let e = split-length c.loop-rest.rest.now c.split_line.result.0.now c.split_line.result.1.now c.split_line.ensures.lines in omega arith
