-- What the fields say is exact.
use Rattle.std.proofs.Common.{Option, ◌^◌, ◌<◌, sym, subst, arith}
use Rattle.rv_inst.specs.declared.inst.Inst.{Inst}
use Rattle.rv_inst.specs.Ranges.{IsDecoded}
use Rattle.rv_inst.proofs.Exact.{fields-exact, exact-decoded}
use Rattle.rv_inst.proofs.decoder.decode.Goals as goal

pub returns-clause-exact : goal.returns-clause-exact
returns-clause-exact c =
    let b : c.args.word < 2 ^ 32 = omega arith in
    subst (λ (m : Option Inst). IsDecoded c.args.word m) (sym c.read_fields.ensures.value) (fields-exact c.args.word b)

pub returns-clause-value : goal.returns-clause-value
returns-clause-value c = exact-decoded c.args.word c.read_fields.result (returns-clause-exact c)
