-- The cut of the whole is that of the rest, behind what was passed.
use Rattle.std.proofs.Common.{◌≡◌, take, drop}
use Rattle.rv_asm.specs.Tokens.{cut_at}
use Rattle.rv_asm.proofs.Cutting.{behind_prefix}
use Rattle.rv_asm.proofs.tokens.cut_at.Given as goal

abbrev pub invariant-loop-i : goal.invariant-loop-i
invariant-loop-i l = behind_prefix (take l.i l.bytes) (cut_at l.at (drop l.i l.bytes)) ≡ cut_at l.at l.bytes
