-- What was passed has no sign.
use Rattle.std.proofs.Common.{◌≡◌, length}
use Rattle.tam_word.specs.Lists.{any_of}
use Rattle.rv_asm.specs.Statements.{is_sign}
use Rattle.rv_asm.proofs.operand_reader.has_sign.Given as goal

abbrev pub invariant-loop-rest : goal.invariant-loop-rest
invariant-loop-rest l = any_of is_sign l.rest ≡ any_of is_sign l.text

abbrev pub decreases-loop-rest : goal.decreases-loop-rest
decreases-loop-rest l = length l.rest
