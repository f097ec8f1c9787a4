use Rattle.std.proofs.Common.{◌≡◌}
use Rattle.tam_frames.specs.FrameCells.{ArePut}
use Rattle.tam_frames.proofs.frame_cells.set_numbered.Given as goal

abbrev pub invariant-loop-i : goal.invariant-loop-i
invariant-loop-i l = record {
  put : ArePut l.fn.table.cells l.table.cells l.start l.words l.i;
  kept : l.table.room ≡ l.fn.table.room;
}
