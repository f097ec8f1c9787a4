-- Which events take no memory.
-- The rule in words: docs/THREADS.md, "Runs of threads".
use Rattle.std.specs.Prelude.{ℕ, ◌≡◌, Bool, true, false, List, Option, Some, None, slice_get, slice_index, Result, Ok, Err}
use Rattle.tam_word.specs.Lists.{all_of}
use Rattle.tam_msgs.specs.declared.item.Item.{Item}
use Rattle.tam_msgs.specs.declared.message.Message.{Message}
use Rattle.tam_msgs.specs.declared.message.Message.TheVariants.{Word as Carry, Frame as Begin, Cells as Make, Fetch as Ask_cell, Store as Put_cell}
use Rattle.tam_msgs.specs.declared.choice.Choice.{Choice}
use Rattle.tam_msgs.specs.declared.choice.Choice.TheVariants.{Quiet as Choose_quiet, Run as Choose_run, Deliver as Choose_delivery}
use Rattle.tam_msgs.specs.declared.stop.Stop.TheVariants.{DoubleWrite, OutOfRange, FramesFull, CellsFull, BudgetSpent, NoMemory}
use Rattle.tam_istr.specs.Cells.{Arrays, Access, Now, Deferred, Stored, Twice, NotBelow, NoArray, fetched_from}
use Rattle.frame_tables.specs.FrameTables.{next_thread}
use Rattle.tl0_code.specs.declared.instr.Instr.{Instr}
use Rattle.tl0_code.specs.declared.instr.Instr.TheVariants.{Imm, Mov, Op as Operate, Fork, Switch, Falloc, Send, Ret, Ialloc, Ifetch, Istore, Skip}
use Rattle.tl0_code.specs.ThreadCode.{Program, code_text, thread_at}
use Rattle.tl0_machine.specs.declared.stop0.Stop0.{Stop0}
use Rattle.tl0_machine.specs.declared.stop0.Stop0.TheVariants.{Stop as Stops, Wild as Goes_wild}
use Rattle.tl0_machine.specs.ThreadStates.{SeenState}
use Rattle.tl0_machine.specs.ThreadEvents.{ThreadRun, next_choice}

-- it isn't memory that is wanted
abbrev pub WantsNothing : {T : Type 0} → Result T Stop0 → Type 0
WantsNothing (Ok x) = Unit {0}
WantsNothing (Err (Goes_wild what n)) = Unit {0}
WantsNothing (Err (Stops NoMemory)) = ⊥
WantsNothing (Err (Stops (DoubleWrite first second))) = Unit {0}
WantsNothing (Err (Stops (OutOfRange site i n))) = Unit {0}
WantsNothing (Err (Stops (FramesFull n))) = Unit {0}
WantsNothing (Err (Stops (CellsFull used n))) = Unit {0}
WantsNothing (Err (Stops (BudgetSpent n))) = Unit {0}

-- an instruction sends nothing
abbrev pub is_silent : Instr → Bool
is_silent (Imm d w) = true
is_silent (Mov d a) = true
is_silent (Operate o d a b) = true
is_silent (Fork t) = true
is_silent (Switch s t u) = true
is_silent (Falloc c i) = false
is_silent (Send r i a) = false
is_silent (Ret k a) = false
is_silent (Ialloc n i) = false
is_silent (Ifetch r x i n) = false
is_silent (Istore r x a n) = false
is_silent (Skip n) = true

-- no reader is put off
abbrev pub answers_now : Access → Bool
answers_now (Now w) = true
answers_now (Deferred arrays) = false
answers_now (Stored arrays readers) = true
answers_now (Twice first) = true
answers_now (NotBelow n) = true
answers_now NoArray = true

-- the delivery of a message takes no memory
abbrev pub is_light : Arrays → Message → Bool
is_light arrays (Carry f i w) = true
is_light arrays (Begin c f i) = true
is_light arrays (Make n f i) = false
is_light arrays (Ask_cell a i f x s) = answers_now (fetched_from arrays a i (f, x))
is_light arrays (Put_cell a i w s) = false

-- nor does that of the message at a place
abbrev pub is_light_at : Arrays → Option Message → Bool
is_light_at arrays None = true
is_light_at arrays (Some x) = is_light arrays x

-- nor a thread that sends nothing
abbrev pub runs_silent : Program → List ℕ → Option (ℕ × ℕ) → Bool
runs_silent p codes None = true
runs_silent p codes (Some (f, t)) = all_of is_silent (thread_at (code_text p (slice_index codes f)) t).instrs

-- what comes next takes no memory
abbrev pub is_quick : Program → SeenState → Choice → Bool
is_quick p s Choose_quiet = true
is_quick p s Choose_run = runs_silent p s.codes (next_thread s.table).0
is_quick p s (Choose_delivery k) = is_light_at s.arrays (slice_get s.pending k)

-- the run wasn't stopped, and its next event takes no memory
pub record IsQuick (run : ThreadRun) (order : List Item) : Type 0 where
  pub goes : run.stopped ≡ None
  pub quick : is_quick run.program run.state (next_choice run.state order) ≡ true
