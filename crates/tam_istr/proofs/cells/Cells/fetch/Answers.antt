use Rattle.tam_istr.proofs.cells.Cells.fetch.Goals as goal

pub fetch_cell-requires : goal.fetch_cell-requires
fetch_cell-requires c = record { short = rw c.deref_mut.ensures.value c.self.invariant.short }
