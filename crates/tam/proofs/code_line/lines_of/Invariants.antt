-- What is counted of the rest comes to what was counted.
use Rattle.std.proofs.Common.{◌≡◌, ◌+◌, length, flat_map}
use Rattle.tl0_code.specs.CodeTexts.{text_lines}
use Rattle.tam.proofs.code_line.lines_of.Given as goal

abbrev pub invariant-loop-rest : goal.invariant-loop-rest
invariant-loop-rest l = l.count + length (flat_map text_lines l.rest) ≡ length (flat_map text_lines l.fn.codes)

abbrev pub decreases-loop-rest : goal.decreases-loop-rest
decreases-loop-rest l = length l.rest
