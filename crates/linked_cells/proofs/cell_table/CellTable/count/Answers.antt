use Rattle.std.proofs.Common.{sym, ap, ◌∙◌, length}
use Rattle.linked_cells.specs.Cells.{CellRow}
use Rattle.linked_cells.proofs.CellLemmas.{length-cells_of}
use Rattle.linked_cells.proofs.cell_table.CellTable.count.Goals as goal

pub returns : goal.returns
returns c =
    let s = c.self.inside in
    record { value = sym (length-cells_of s.base.ptr s.count s.memory.places c.self.invariant.5.within) ∙ ap (λ (r : CellRow). length r.cells) c.self.view_is }
