use Rattle.std.proofs.Common.{rules}
use Rattle.tam_input.specs.Told.{told}
use Rattle.tam_input.proofs.Found.{file-refused}
use Rattle.tam_input.proofs.input.read_file.Goals as goal

pub returns-in_err-read_whole-clause-refused : goal.returns-in_err-read_whole-clause-refused
returns-in_err-read_whole-clause-refused g c =
    let h = file-refused (told g.F.Files.left g.F.Files.faults g.F.Files.ends c.args.files.now)
    (told g.F.Files.left g.F.Files.faults g.F.Files.ends c.read_whole.new.files) c.args.file.now c.args.most c.in_err-read_whole.field-0.0
    c.in_err-read_whole.ensures.too_long c.in_err-read_whole.ensures.counted in
    search (rules, h)
