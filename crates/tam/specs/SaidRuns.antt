-- What is said of a run: its text under the ending of its end, or the lines of its first results and that memory was wanted.
-- The rule in words: docs/FORMATS.md, "The text of a run".
use Rattle.std.specs.Prelude.{ℕ, ◌≡◌, List, [], ◌∷◌, ◌++◌, flat_map}
use Rattle.tam_msgs.specs.Runs.{End, Quiet, Double_write, Out_of_range, Frames_full, Cells_full, Budget_spent, Wild, Trap, Report, result_line}
use Rattle.tam_msgs.specs.Runs.{missing_of}
use Rattle.tam_run.specs.Accounts.{Account, account_text}
use Rattle.tam_input.specs.declared.ending.Ending.{Ending}
use Rattle.tam_input.specs.declared.ending.Ending.TheVariants as ending
use Rattle.tam_input.specs.Refusing.{no_memory_line}

-- how the program ends behind the end of a run; the list is of the results that are missing
abbrev pub ending_by : End → List ℕ → Ending
ending_by Quiet [] = ending.Done
ending_by Quiet (k ∷ ks) = ending.ResultsMissing
ending_by (Double_write s t) ks = ending.DoubleWrite
ending_by (Out_of_range s i l) ks = ending.OutOfRange
ending_by (Frames_full n) ks = ending.FramesFull
ending_by (Cells_full u l) ks = ending.CellsFull
ending_by (Budget_spent n) ks = ending.BudgetSpent
ending_by (Wild what n) ks = ending.Broken
ending_by (Trap pc cause) ks = ending.Broken

-- how it ends behind a run
abbrev pub ending_of : Report → Ending
ending_of r = ending_by r.how (missing_of r.how r.results r.printed)

-- the ending and the text that are said of a run, by what it tells
pub data SaysRun (a : Account) : Ending → List ℕ → Type 0 where
  -- all of it
  whole_run : SaysRun a (ending_of a.report) (account_text a)
  -- or that memory was wanted, behind the lines of its first results
  run_out : (prefix rest : List (ℕ × ℕ)) → a.report.printed ≡ prefix ++ rest → SaysRun a ending.NoMemory (flat_map result_line prefix ++ no_memory_line)
