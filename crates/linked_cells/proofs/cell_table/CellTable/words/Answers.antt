use Rattle.std.proofs.Common.{◌≡◌, sym, ap, ◌∙◌, Some}
use Rattle.linked_cells.specs.Cells.{CellRow, LinkedCell, cell_at, seen}
use Rattle.linked_cells.proofs.CellLemmas.{block_of_table, within, readable, read_is}
use Rattle.linked_cells.proofs.cell_table.CellTable.words.Goals as goal

pub read-cell-requires : goal.read-cell-requires
read-cell-requires c =
    let s = c.self.inside in let k = block_of_table s c.self.invariant in let now = ap (λ (r : CellRow). r.cells) c.self.view_is in
    record {
      there = readable s.base.ptr s.count k c.nth.result.ptr c.args.i c.nth.ensures.value
          (within s.base.ptr s.count k c.args.self.now.cells now c.args.i c.requires.there);
    }

-- what was read is the cell
read : (c : goal.After-read-cell) → cell_at c.args.self.now.cells c.args.i ≡ seen c.self.inside.base.ptr (Some c.read-cell.result.now)
read c =
    let s = c.self.inside in let k = block_of_table s c.self.invariant in let now = ap (λ (r : CellRow). r.cells) c.self.view_is in
    ap (λ cells. cell_at cells c.args.i) (sym now) ∙ read_is s.base.ptr s.count k c.nth.result.ptr c.args.i c.nth.ensures.value
    (within s.base.ptr s.count k c.args.self.now.cells now c.args.i c.requires.there) c.read-cell.result.now c.read-cell.ensures.value

pub returns-clause-first : goal.returns-clause-first
returns-clause-first c = sym (ap (λ (l : LinkedCell). l.first) (read c))

pub returns-clause-second : goal.returns-clause-second
returns-clause-second c = sym (ap (λ (l : LinkedCell). l.second) (read c))
