-- The faults of all are those of the rest; the numbers that were passed have 32 bits; and the places stay in range.
use Rattle.std.proofs.Common.{◌≡◌, ◌+◌, length, true, flat_map}
use Rattle.tl0_code.specs.CodeRules.{faults_of_thread}
use Rattle.tl0_check.specs.FirstFault.{faults_from, are_words, numbers_of_thread}
use Rattle.tl0_check.proofs.checker.check_threads.Given as goal

abbrev pub invariant-loop-rest : goal.invariant-loop-rest
invariant-loop-rest l = record {
  same : faults_from l.code l.fn.place (flat_map (faults_of_thread l.program l.own) l.fn.threads)
      ≡ faults_from l.code l.place (flat_map (faults_of_thread l.program l.own) l.rest);
  words : are_words (flat_map numbers_of_thread l.rest) ≡ true → are_words (flat_map numbers_of_thread l.fn.threads) ≡ true;
  few : l.place + length (flat_map (faults_of_thread l.program l.own) l.rest)
      ≡ l.fn.place + length (flat_map (faults_of_thread l.program l.own) l.fn.threads);
}

abbrev pub decreases-loop-rest : goal.decreases-loop-rest
decreases-loop-rest l = length l.rest
