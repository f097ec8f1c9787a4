-- The faults of all are those of the rest; the numbers that were passed have 32 bits; and the places stay in range.
use Rattle.std.proofs.Common.{◌≡◌, ◌+◌, length, true, map, flat_map}
use Rattle.tl0_code.specs.ThreadCode.{numbers_of}
use Rattle.tl0_code.specs.CodeRules.{faults_of_instr}
use Rattle.tl0_check.specs.FirstFault.{faults_from, are_words}
use Rattle.tl0_check.proofs.checker.check_instrs.Given as goal

abbrev pub invariant-loop-rest : goal.invariant-loop-rest
invariant-loop-rest l = record {
  same : faults_from l.code l.fn.place (map (faults_of_instr l.program l.own) l.fn.instrs)
      ≡ faults_from l.code l.place (map (faults_of_instr l.program l.own) l.rest);
  words : are_words (flat_map numbers_of l.rest) ≡ true → are_words (flat_map numbers_of l.fn.instrs) ≡ true;
  few : l.place + length l.rest ≡ l.fn.place + length l.fn.instrs;
}

abbrev pub decreases-loop-rest : goal.decreases-loop-rest
decreases-loop-rest l = length l.rest
