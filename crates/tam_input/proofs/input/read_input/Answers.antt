use Rattle.std.proofs.Common.{rules, map, string_bytes}
use Rattle.tam_words.specs.Jobs.{asked}
use Rattle.tam_input.specs.Told.{told}
use Rattle.tam_input.proofs.Found.{words-refused}
use Rattle.tam_input.proofs.input.read_input.Goals as goal

pub returns-in_err-job-clause-refused : goal.returns-in_err-job-clause-refused
returns-in_err-job-clause-refused g c =
    let h = words-refused (asked (map string_bytes c.args.words.now)) (told g.F.Files.left g.F.Files.faults g.F.Files.ends c.args.files.now)
    c.in_err-job.field-0.0 c.in_err-job.ensures.refused in
    search (rules, h)
