use Rattle.std.proofs.Common.{◌≡◌, get_or}
use Rattle.rv_gen.proofs.Starting.{text-read}
use Rattle.rv_gen.proofs.threads.code_at.Goals as goal

pub returns : goal.returns
returns c =
    let p = c.args.program.now in
    let own : c.index-codes-number.result ≡ get_or p.codes c.args.number c.index-codes-number.result =
    rw (← c.codes.ensures.value) c.index-codes-number.is in
    record { value = text-read p.codes c.args.number c.index-codes-number.result c.requires.there own }
