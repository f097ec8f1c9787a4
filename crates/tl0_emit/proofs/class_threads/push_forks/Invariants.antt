use Rattle.std.proofs.Common.{◌≡◌, ◌++◌, filter}
use Rattle.tam_word.specs.Lists.{below, has}
use Rattle.tl0_emit.specs.BlockFlows.{forks_from}
use Rattle.tl0_emit.proofs.class_threads.push_forks.Given as goal

abbrev pub invariant-loop-k : goal.invariant-loop-k
invariant-loop-k l = l.instrs.items ≡ l.initial.instrs.items ++ forks_from l.first (filter (has l.set) (below l.k))
