use Rattle.std.proofs.Common.{◌≡◌, map, ap, ◌∙◌}
use Rattle.tam_text.specs.Lines.{lines_of}
use Rattle.tam_read.specs.Faults.{faults, said_from}
use Rattle.tam_read.specs.LineView.{numbered}
use Rattle.tam_read.specs.Refusals.{IsFirst}
use Rattle.tam_read.proofs.Refusing.{no-fault, first-of-first, first-of-second, handed-on}
use Rattle.tam_read.proofs.refusal.read_parts.Goals as goal

pub returns-in-Ok-clause-faultless : goal.returns-in-Ok-clause-faultless
returns-in-Ok-clause-faultless c =
    let text = c.args.text.now in
    let is : map numbered c.deref.result.now ≡ said_from 1 (lines_of text) = ap (map numbered) c.deref.ensures.value ∙ c.in_ok-lines.ensures.lines in
    no-fault text (map numbered c.deref.result.now) c.in_ok-lines.ensures.faultless is c.in-Ok.ensures.faultless

pub returns-clause-refused : goal.returns-clause-refused
returns-clause-refused c =
    let text = c.args.text.now in
    let is : map numbered c.deref.result.now ≡ said_from 1 (lines_of text) = ap (map numbered) c.deref.ensures.value ∙ c.in_ok-lines.ensures.lines in
    first-of-second text (map numbered c.deref.result.now) c.in_ok-lines.ensures.faultless is c.in-Err.refused c.in-Err.ensures.refused

pub returns-in_err-lines-clause-refused : goal.returns-in_err-lines-clause-refused
returns-in_err-lines-clause-refused c =
    let first = first-of-first c.args.text.now c.in_err-lines.field-0.0 c.in_err-lines.ensures.refused in
    handed-on (IsFirst (faults c.args.text.now)) c.from_residual.result c.in_err-lines.field-0.0 c.from_residual.ensures.1 first
