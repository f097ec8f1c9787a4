-- What was counted and what is left are no more than the text.
use Rattle.std.proofs.Common.{◌≤◌, ◌+◌, length}
use Rattle.tl0_text.proofs.pass.thread_len.Given as goal

abbrev pub invariant-loop-rest : goal.invariant-loop-rest
invariant-loop-rest l = l.len + length l.rest ≤ length l.text

abbrev pub decreases-loop-rest : goal.decreases-loop-rest
decreases-loop-rest l = length l.rest
