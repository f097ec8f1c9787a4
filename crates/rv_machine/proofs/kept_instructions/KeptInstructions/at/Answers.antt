use Rattle.std.proofs.Common.{arith}
use Rattle.rv_machine.proofs.Kept.{found-decoded}
use Rattle.rv_machine.proofs.kept_instructions.KeptInstructions.at.Goals as goal

pub returns : goal.returns
returns c = record {
  value = λ memory t. found-decoded c.args.self.now.insts.items memory c.args.address c.index.result.now t (omega arith) (omega arith) c.index.ensures;
}
