use Rattle.std.proofs.Common.{◌≡◌, drop}
use Rattle.tam_word.specs.declared.op.TheConstants.{OPS}
use Rattle.tam_word.proofs.OpsCalled.{called}
use Rattle.tam_word.proofs.op.op_of.Given as goal

abbrev pub invariant-loop-op : goal.invariant-loop-op
invariant-loop-op l = called l.name (drop l.op-index OPS) ≡ called l.name OPS
