use Rattle.std.proofs.Common.{◌∙◌, ap, length, length-set}
use Rattle.linked_cells.specs.Cells.{CellRow, cell_at}
use Rattle.linked_cells.proofs.LineLemmas.{line-rest, last-rest}
use Rattle.linked_cells.proofs.line.Line.pop_front.Goals as goal

pub returns-else-self-eq0-2-clause-line : goal.returns-else-self-eq0-2-clause-line
returns-else-self-eq0-2-clause-line c =
    let same = ap (λ (r : CellRow). length r.cells) c.unlink-number.ensures.value ∙ length-set c.args.table.now.cells c.args.self.now.root _ in
    line-rest c.requires.line same c.args.self.now.last c.if-self-eq0.false
    (last-rest c.requires.line c.if-self-eq0.false c.if-self-eq0-2.false) c.unlink-number.ensures.popped
