-- What is printed of the rest goes behind what was printed; and the numbers that were printed have 32 bits.
use Rattle.std.proofs.Common.{◌≡◌, ◌++◌, length, true, flat_map}
use Rattle.tam_word.specs.Lists.{all_of}
use Rattle.tl0_code.specs.ThreadCode.{numbers_of}
use Rattle.tl0_text.specs.Printing.{is_word, instr_text}
use Rattle.tl0_text.proofs.printer.push_instrs.Given as goal

abbrev pub invariant-loop-rest : goal.invariant-loop-rest
invariant-loop-rest l = record {
  ok : l.text.items ++ flat_map instr_text l.rest ≡ l.fn.text.items ++ flat_map instr_text l.fn.instrs;
  words : all_of is_word (flat_map numbers_of l.rest) ≡ true → all_of is_word (flat_map numbers_of l.fn.instrs) ≡ true;
}

abbrev pub decreases-loop-rest : goal.decreases-loop-rest
decreases-loop-rest l = length l.rest
