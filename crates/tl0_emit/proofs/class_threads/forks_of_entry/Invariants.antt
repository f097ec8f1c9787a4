use Rattle.std.proofs.Common.{◌≡◌, ◌==◌, filter, slice_index}
use Rattle.tam_word.specs.Lists.{below}
use Rattle.tl0_emit.specs.BlockFlows.{forks_from}
use Rattle.tl0_emit.proofs.class_threads.forks_of_entry.Given as goal

abbrev pub invariant-loop-k : goal.invariant-loop-k
invariant-loop-k l = l.forks.items ≡ forks_from l.first (filter (λ k. slice_index l.waits k == 0) (below l.k))
