use Rattle.std.proofs.Common.{◌≡◌, arith}
use Rattle.rv_machine.specs.Keeping.{unknown}
use Rattle.rv_machine.proofs.Kept.{forget-decoded, beyond-decoded}
use Rattle.rv_machine.proofs.kept_instructions.KeptInstructions.forget.Goals as goal

pub returns-then-index-len : goal.returns-then-index-len
returns-then-index-len c = record {
  kept = λ memory n w t h l.
      let e : c.unknown.result ≡ unknown = c.unknown.ensures.value in
      rw e (forget-decoded c.args.self.now.insts.items memory c.args.address n w t h l (omega arith));
}

pub returns-else-index-len : goal.returns-else-index-len
returns-else-index-len c = record { kept = λ memory n w t h l. beyond-decoded c.args.self.now.insts.items memory c.args.address n w t l (omega arith) }
