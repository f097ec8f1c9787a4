use Rattle.std.proofs.Common.{◌≡◌, ◌∙◌, ap, length}
use Rattle.linked_cells.specs.Cells.{CellRow}
use Rattle.linked_cells.proofs.LineLemmas.{length-linked, last-there, line-back}
use Rattle.linked_cells.proofs.line.Line.push_back.Goals as goal

pub link-requires-clause-at_there : goal.link-requires-clause-at_there
link-requires-clause-at_there c = last-there c.requires.line

pub returns-clause-line : goal.returns-clause-line
returns-clause-line c =
    let same = ap (λ (r : CellRow). length r.cells) c.link.ensures.value ∙ length-linked c.args.table.now.cells c.args.self.now.last c.args.i in
    line-back c.requires.line same c.args.i c.requires.there c.requires.apart (c.link.ensures.appended)
