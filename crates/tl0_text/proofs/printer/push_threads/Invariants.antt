-- What is printed of the rest goes behind what was printed; and the numbers that were printed have 32 bits.
use Rattle.std.proofs.Common.{◌≡◌, ◌++◌, length, flat_map}
use Rattle.std.specs.List.{AllByRecursion}
use Rattle.tl0_text.specs.Printing.{HasWords, thread_text}
use Rattle.tl0_text.proofs.printer.push_threads.Given as goal

abbrev pub invariant-loop-rest : goal.invariant-loop-rest
invariant-loop-rest l = record {
  ok : l.text.items ++ flat_map thread_text l.rest ≡ l.fn.text.items ++ flat_map thread_text l.fn.threads;
  words : AllByRecursion HasWords l.rest → AllByRecursion HasWords l.fn.threads;
}

abbrev pub decreases-loop-rest : goal.decreases-loop-rest
decreases-loop-rest l = length l.rest
