-- What is printed of the rest goes behind what was printed; and the numbers that were printed have 32 bits.
use Rattle.std.proofs.Common.{◌≡◌, ◌++◌, length, true, flat_map}
use Rattle.tam_word.specs.Lists.{all_of}
use Rattle.tl0_text.specs.Printing.{is_word, inlet_numbers, inlet_text}
use Rattle.tl0_text.proofs.printer.push_inlets.Given as goal

abbrev pub invariant-loop-rest : goal.invariant-loop-rest
invariant-loop-rest l = record {
  ok : l.text.items ++ flat_map inlet_text l.rest ≡ l.fn.text.items ++ flat_map inlet_text l.fn.inlets;
  words : all_of is_word (flat_map inlet_numbers l.rest) ≡ true → all_of is_word (flat_map inlet_numbers l.fn.inlets) ≡ true;
}

abbrev pub decreases-loop-rest : goal.decreases-loop-rest
decreases-loop-rest l = length l.rest
