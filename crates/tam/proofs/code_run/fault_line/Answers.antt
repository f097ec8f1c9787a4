use Rattle.std.proofs.Common.{arith}
use Rattle.tam.proofs.CodeLines.{fault-there, text-few}
use Rattle.tam.proofs.code_run.fault_line.Goals as goal

pub code_line-line-requires-clause-short : goal.code_line-line-requires-clause-short
code_line-line-requires-clause-short c =
    let few = text-few c.args.program.now in
    let short = c.requires.short in
    omega (arith, few, short)

pub code_line-line-requires-clause-there : goal.code_line-line-requires-clause-there
code_line-line-requires-clause-there c = (fault-there c.args.program.now c.args.fault c.requires.first).0

pub code_line-line-requires-clause-in_code : goal.code_line-line-requires-clause-in_code
code_line-line-requires-clause-in_code c = (fault-there c.args.program.now c.args.fault c.requires.first).1
