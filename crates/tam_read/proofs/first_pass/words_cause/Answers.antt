use Rattle.std.proofs.Common.{◌≡◌, true, map, sym}
use Rattle.tam_read.specs.Faults.{is_head}
use Rattle.tam_read.specs.LineView.{numbered}
use Rattle.tam_read.specs.SaidView.{texts}
use Rattle.tam_read.proofs.LinesKept.{kept-head}
use Rattle.tam_read.proofs.first_pass.words_cause.Goals as goal

pub returns-then-not-pass-clause-lines : goal.returns-then-not-pass-clause-lines
returns-then-not-pass-clause-lines c =
    let head : is_head (texts c.args.words.now) ≡ true = sym c.if-not-is_head.ensures.value in
    kept-head (map numbered c.args.pass.now.lines.items) c.args.number (texts c.args.words.now) head
