use Rattle.tam_istr.proofs.cells.Cells.store.Goals as goal

pub store_cell-requires : goal.store_cell-requires
store_cell-requires c = record { short = rw c.deref_mut.ensures.value c.self.invariant.short }
