use Rattle.std.proofs.Common.{◌≡◌, [], replicate}
use Rattle.tam_istr.specs.Cells.{Empty}
use Rattle.tam_istr.specs.CellAnswers.{cells_of}
use Rattle.tam_istr.proofs.cells.empty_cells.Given as goal

abbrev pub invariant-loop : goal.invariant-loop
invariant-loop l = cells_of l.cells.items ≡ replicate l.counter (Empty [])
