-- What a run of thread code tells from a state on.
use Rattle.std.specs.Prelude.{ℕ, ◌≡◌, List, [], None}
use Rattle.tam_istr.specs.Cells.{cells_used}
use Rattle.tam_msgs.specs.declared.counts.Counts.{Counts}
use Rattle.tam_msgs.specs.declared.item.Item.{Item}
use Rattle.tam_msgs.specs.declared.limits.Limits.{Limits}
use Rattle.tl0_code.specs.ThreadCode.{Program, code_text}
use Rattle.tl0_code.specs.Machines.{Machine}
use Rattle.tl0_code.specs.ThreadRuns.{thread_step}
use Rattle.tl0_machine.specs.ThreadStates.{machine_with, AreMarked}
use Rattle.tl0_machine.specs.ThreadEvents.{ThreadRun}
use Rattle.tam_run.specs.Accounts.{Account}
use Rattle.tam_run.specs.Telling.{Run, Tells, Stand, stand_in}

-- what a state has counted
abbrev pub thread_counts : Machine → Counts
thread_counts m = record { events = m.events; activations = m.begun; cells = cells_used m.arrays }

-- the run of a program within limits
abbrev pub thread_run : Program → Limits → Run Machine
thread_run p limits = record {
  step = thread_step p limits;
  budget = limits.budget;
  results = (code_text p p.main).results;
  printed = λ m. m.printed;
  counts = thread_counts;
  machine = λ m. None;
}

-- where it stands, whatever is left of the order list and whatever was printed
abbrev pub thread_stand : ThreadRun → Stand
thread_stand run = stand_in (thread_run run.program run.limits) (machine_with run.state [] [])

-- it goes on, these results were printed and no others, and under this order list it tells this account
pub record ThreadTells (run : ThreadRun) (order : List Item) (printed : List (ℕ × ℕ)) (a : Account) : Type 0 where
  pub going : run.stopped ≡ None
  pub marks : AreMarked run.state.marks printed
  pub tells : Tells (thread_run run.program run.limits) (machine_with run.state order printed) a
