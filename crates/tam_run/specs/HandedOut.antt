-- The machine that a run hands out.
-- The rule in words: docs/MACHINE.md, "The host".
use Rattle.std.specs.Prelude.{◌≡◌, Bool, true, false, Option, Some, None}
use Rattle.tam_msgs.specs.declared.stop.Stop.{Stop}
use Rattle.tam_msgs.specs.declared.stop.Stop.TheVariants.{DoubleWrite, OutOfRange, FramesFull, CellsFull, BudgetSpent, NoMemory}
use Rattle.rv_inst.specs.Harts.{Hart}
use Rattle.tam_run.specs.declared.outcome.Outcome.{Outcome}
use Rattle.tam_run.specs.declared.outcome.Outcome.TheVariants as outcome
use Rattle.tam_run.specs.declared.exec.Exec.{Exec}
use Rattle.tam_run.specs.declared.exec.Exec.TheVariants as exec

-- the stop isn't want of memory
abbrev pub is_whole_stop : Stop → Bool
is_whole_stop (DoubleWrite first second) = true
is_whole_stop (OutOfRange site i n) = true
is_whole_stop (FramesFull n) = true
is_whole_stop (CellsFull used n) = true
is_whole_stop (BudgetSpent n) = true
is_whole_stop NoMemory = false

-- the run came to its end, and its text was written: neither want of memory nor a fault broke it off
abbrev pub is_whole : Outcome → Bool
is_whole (outcome.Quiet missing) = true
is_whole (outcome.Stopped stop) = is_whole_stop stop
is_whole outcome.WriteFault = false

-- the same of a run of code
abbrev pub is_whole_exec : Exec → Bool
is_whole_exec (exec.Run ended) = is_whole ended
is_whole_exec exec.Wild = true
is_whole_exec exec.Trap = true

-- the machine that is there once a run has left one, if it has; the one that was there stays else
abbrev pub with_left : Option Hart → Option Hart → Option Hart
with_left None old = old
with_left (Some h) old = Some h

-- where the run is whole the machine that it leaves is handed out, and nothing where it isn't
abbrev pub handed_out : Bool → Option Hart → Option Hart → Option Hart
handed_out true left old = with_left left old
handed_out false left old = old

-- so it is behind an outcome
abbrev pub HandsOut : Option Hart → Option Hart → Option Hart → Outcome → Type 0
HandsOut left old new result = new ≡ handed_out (is_whole result) left old

-- and behind a run of code
abbrev pub HandsOutExec : Option Hart → Option Hart → Option Hart → Exec → Type 0
HandsOutExec left old new result = new ≡ handed_out (is_whole_exec result) left old

-- where the run is whole, this is the machine that it leaves
abbrev pub Leaves : Option Hart → Option Hart → Exec → Type 0
Leaves left machine result = is_whole_exec result ≡ true → machine ≡ left
