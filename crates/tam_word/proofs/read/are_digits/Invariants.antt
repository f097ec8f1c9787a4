use Rattle.std.proofs.Common.{◌≡◌, length}
use Rattle.tam_word.specs.Numbers.{are_digits}
use Rattle.tam_word.proofs.read.are_digits.Given as goal

abbrev pub invariant-loop-rest : goal.invariant-loop-rest
invariant-loop-rest l = are_digits l.base l.rest ≡ are_digits l.base l.bytes

abbrev pub decreases-loop-rest : goal.decreases-loop-rest
decreases-loop-rest l = length l.rest
