use Rattle.std.proofs.Common.{sym}
use Rattle.tam_frames.proofs.FrameCellLemmas.{count-is}
use Rattle.tam_frames.proofs.frame_cells.FrameCells.begun.Goals as goal

pub returns : goal.returns
returns c = record { value = sym (count-is c.self.invariant c.self.view_is) }
