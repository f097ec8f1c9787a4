-- The ends of runs as the code has them.
use Rattle.std.specs.Prelude.{Option, None, Some}
use Rattle.tam_msgs.specs.declared.stop.Stop.{Stop}
use Rattle.tam_msgs.specs.declared.stop.Stop.TheVariants.{DoubleWrite, OutOfRange, FramesFull, CellsFull, BudgetSpent, NoMemory}
use Rattle.tam_msgs.specs.Runs.{End, Quiet, Double_write, Out_of_range, Frames_full, Cells_full, Budget_spent}
use Rattle.tam_msgs.specs.Runs.{WildCause, Wild_frame, Wild_inlet, Wild_thread, Wild_array, Wild_place, Wild_ecall, Wild_skip}
use Rattle.tam_run.specs.declared.halt.Cause.{Cause}
use Rattle.tam_run.specs.declared.halt.Cause.TheVariants as cause

-- the end that a stop is; want of memory is none
abbrev pub end_of_stop : Stop → Option End
end_of_stop (DoubleWrite s t) = Some (Double_write s t)
end_of_stop (OutOfRange s i l) = Some (Out_of_range s i l)
end_of_stop (FramesFull n) = Some (Frames_full n)
end_of_stop (CellsFull u l) = Some (Cells_full u l)
end_of_stop (BudgetSpent n) = Some (Budget_spent n)
end_of_stop NoMemory = None

-- the end of a run that stopped so, or is quiet where it did not stop
abbrev pub end_of : Option Stop → Option End
end_of None = Some Quiet
end_of (Some stop) = end_of_stop stop

-- the cause that the code names
abbrev pub cause_of : Cause → WildCause
cause_of cause.Frame = Wild_frame
cause_of cause.Inlet = Wild_inlet
cause_of cause.Thread = Wild_thread
cause_of cause.Array = Wild_array
cause_of cause.Place = Wild_place
cause_of cause.Ecall = Wild_ecall
cause_of cause.Skip = Wild_skip
