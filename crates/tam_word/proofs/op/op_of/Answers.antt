use Rattle.std.proofs.Common.{◌≡◌, get_or, sym}
use Rattle.tam_word.specs.declared.op.TheConstants.{OPS}
use Rattle.tam_word.specs.declared.op.Op.TheVariants.{Add}
use Rattle.tam_word.specs.OpNames.{op_name}
use Rattle.tam_word.proofs.OpsCalled.{another_op, this_op}
use Rattle.tam_word.proofs.op.op_of.Goals as goal

pub loop-op-preserved : goal.loop-op-preserved
loop-op-preserved c =
    let is : c.op_name.result.now ≡ op_name (get_or OPS c.loop-op.op-index Add) = c.op_name.ensures.value in
    another_op c.args.name.now c.op_name.result.now c.loop-op.op-index Add c.loop-op-test.true is (sym c.if-eq.ensures) c.loop-op.invariant

pub returns-then-eq : goal.returns-then-eq
returns-then-eq c =
    let is : c.op_name.result.now ≡ op_name (get_or OPS c.loop-op.op-index Add) = c.op_name.ensures.value in
    record {
      value = this_op c.args.name.now c.op_name.result.now c.loop-op.op-index Add c.loop-op-test.true is (sym c.if-eq.ensures) c.loop-op.invariant;
    }
