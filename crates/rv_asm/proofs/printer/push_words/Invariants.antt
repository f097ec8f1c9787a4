-- What stands behind the first lines is appended to what was there.
use Rattle.std.proofs.Common.{◌≡◌, ◌++◌, length, flat_map}
use Rattle.rv_asm.specs.AsmText.{word_line}
use Rattle.rv_asm.proofs.printer.push_words.Given as goal

abbrev pub invariant-loop-rest : goal.invariant-loop-rest
invariant-loop-rest l = l.text.items ++ flat_map word_line l.rest ≡ l.fn.text.items ++ flat_map word_line l.fn.words

abbrev pub decreases-loop-rest : goal.decreases-loop-rest
decreases-loop-rest l = length l.rest
