-- What is printed of the rest goes behind what was printed; and the codes that were printed keep their limits.
use Rattle.std.proofs.Common.{◌≡◌, ◌++◌, length, flat_map}
use Rattle.std.specs.List.{AllByRecursion}
use Rattle.tl0_code.specs.ThreadCode.{IsCodeText}
use Rattle.tl0_text.specs.Printing.{code_bytes}
use Rattle.tl0_text.proofs.printer.push_codes.Given as goal

abbrev pub invariant-loop-rest : goal.invariant-loop-rest
invariant-loop-rest l = record {
  ok : l.text.items ++ flat_map code_bytes l.rest ≡ l.fn.text.items ++ flat_map code_bytes l.fn.all;
  each : AllByRecursion IsCodeText l.rest → AllByRecursion IsCodeText l.fn.all;
}

abbrev pub decreases-loop-rest : goal.decreases-loop-rest
decreases-loop-rest l = length l.rest
