-- The threads so far have their counts.
use Rattle.std.proofs.Common.{◌≡◌, map, take}
use Rattle.tl0_code.specs.ThreadCode.{Thread}
use Rattle.tl0_machine.proofs.code_table.entry_counts.Given as goal

abbrev pub invariant-loop-thread : goal.invariant-loop-thread
invariant-loop-thread l = l.counts.items ≡ map (λ (t : Thread). t.count) (take l.thread-index l.threads)
