-- The faults of all are those of the rest; the numbers that were passed have 32 bits; and the places stay in range.
use Rattle.std.proofs.Common.{◌≡◌, ◌+◌, length, true, map, flat_map}
use Rattle.tl0_code.specs.CodeRules.{faults_of_inlet}
use Rattle.tl0_check.specs.FirstFault.{faults_from, are_words, numbers_of_inlet}
use Rattle.tl0_check.proofs.checker.check_inlets.Given as goal

abbrev pub invariant-loop-rest : goal.invariant-loop-rest
invariant-loop-rest l = record {
  same : faults_from l.code 1 (map (faults_of_inlet l.own) l.fn.inlets) ≡ faults_from l.code l.place (map (faults_of_inlet l.own) l.rest);
  words : are_words (flat_map numbers_of_inlet l.rest) ≡ true → are_words (flat_map numbers_of_inlet l.fn.inlets) ≡ true;
  few : l.place + length l.rest ≡ 1 + length l.fn.inlets;
}

abbrev pub decreases-loop-rest : goal.decreases-loop-rest
decreases-loop-rest l = length l.rest
