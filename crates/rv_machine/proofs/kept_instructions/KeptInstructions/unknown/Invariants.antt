use Rattle.std.proofs.Common.{◌≡◌, replicate}
use Rattle.rv_machine.specs.Keeping.{unknown}
use Rattle.rv_machine.proofs.kept_instructions.KeptInstructions.unknown.Given as goal

-- as many unknown instructions as were asked for so far
abbrev pub invariant-loop : goal.invariant-loop
invariant-loop l = l.insts.items ≡ replicate l.counter unknown
