-- The line so far counts the LFs that were passed.
use Rattle.std.proofs.Common.{◌≡◌, ◌+◌, take}
use Rattle.std.specs.Prelude.{count_by, ◌==◌}
use Rattle.rv_asm.proofs.first_pass.last_line.Given as goal

abbrev pub invariant-loop-byte : goal.invariant-loop-byte
invariant-loop-byte l = l.line ≡ count_by (λ b. b == 10) (take l.byte-index l.text) + 1
