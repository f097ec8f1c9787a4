-- The addresses of the rest stand behind those that were pushed, and the last is within what a word counts.
use Rattle.std.proofs.Common.{◌≡◌, ◌+◌, ◌*◌, ◌<◌, ◌^◌, ◌++◌, length}
use Rattle.rv_keep.specs.Image.{threads_words}
use Rattle.rv_gen.specs.Parts.{starts_from}
use Rattle.rv_gen.proofs.threads.starts_of.Given as goal

abbrev pub invariant-loop-rest : goal.invariant-loop-rest
invariant-loop-rest l = record {
  value : l.starts.items ++ starts_from l.next l.rest ≡ starts_from l.fn.first l.fn.threads;
  fits : l.next + 4 * threads_words l.rest < 2 ^ 32;
}

abbrev pub decreases-loop-rest : goal.decreases-loop-rest
decreases-loop-rest l = length l.rest
