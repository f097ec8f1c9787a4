use Rattle.std.proofs.Common.{arith}
use Rattle.tam_frames.proofs.frame_cells.FrameCells.thread_cell.Goals as goal

pub overflow_add-result : goal.overflow_add-result
overflow_add-result c = omega (arith, c.start.ensures.fits)

pub overflow_add-result-2 : goal.overflow_add-result-2
overflow_add-result-2 c = omega (arith, c.start.ensures.fits, c.requires.thread)
