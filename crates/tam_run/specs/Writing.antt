-- What a run wrote, by how it ended.
-- The rule in words: docs/FORMATS.md, "The text of a run".
use Rattle.std.specs.Prelude.{◌≡◌, ℕ, List, ◌++◌, length, flat_map, Option, Some, Result, Ok, Err}
use Rattle.std.specs.Io.KnownBytes.{Appends}
use Rattle.tam_edge.specs.Faults.{CountsFault}
use Rattle.tam_edge.specs.Whole.{AppendsPrefix}
use Rattle.tam_msgs.specs.declared.stop.Stop.{Stop}
use Rattle.tam_msgs.specs.declared.stop.Stop.TheVariants.{NoMemory}
use Rattle.tam_msgs.specs.Runs.{Report, End, Quiet, Wild, Trap, WildCause, result_line, joined, missing_of}
use Rattle.tam_run.specs.declared.outcome.Outcome.{Outcome}
use Rattle.tam_run.specs.declared.outcome.Outcome.TheVariants as outcome
use Rattle.tam_run.specs.declared.exec.Exec.{Exec}
use Rattle.tam_run.specs.declared.exec.Exec.TheVariants as exec
use Rattle.tam_run.specs.declared.broken.Broken.{Broken}
use Rattle.tam_run.specs.declared.broken.Broken.TheVariants as broken
use Rattle.tam_run.specs.declared.tally.Tally.{Tally}
use Rattle.tam_run.specs.Accounts.{Account, account_text, closing_lines, told_of}
use Rattle.tam_run.specs.Ends.{end_of_stop}

-- the end of a run is wild
abbrev pub IsWild : End → Type 0
IsWild how = (what : WildCause) × (number : ℕ) × (how ≡ Wild what number)

-- it is a trap
abbrev pub IsTrap : End → Type 0
IsTrap how = (pc : ℕ) × (cause : List ℕ) × (how ≡ Trap pc cause)

-- the lines of the first results were taken, of any number of them
abbrev pub AppendsFirstLines : Option (List ℕ) → Option (List ℕ) → List (ℕ × ℕ) → Type 0
AppendsFirstLines old new printed = (prefix rest : List (ℕ × ℕ)) × (printed ≡ prefix ++ rest) × Appends old new (flat_map result_line prefix)

-- the whole text was taken, and the run ended so
abbrev pub WritesStopped : Account → Option (List ℕ) → Option (List ℕ) → Stop → Type 0
WritesStopped a old new NoMemory = AppendsFirstLines old new a.report.printed
WritesStopped a old new stop = Appends old new (account_text a) × (Some a.report.how ≡ end_of_stop stop)

-- by the outcome: the text of the run, or the lines of its first results for want of memory, or a prefix of the text before a fault
abbrev pub Writes : Account → Option (List ℕ) → Option (List ℕ) → Outcome → Type 0
Writes a old new (outcome.Quiet missing) = Appends old new (account_text a) × (a.report.how ≡ Quiet)
    × (missing ≡ length (missing_of a.report.how a.report.results a.report.printed))
Writes a old new (outcome.Stopped stop) = WritesStopped a old new stop
Writes a old new outcome.WriteFault = AppendsPrefix old new (account_text a)

-- the count of the sink's faults rose, or stands at its last value, where a write failed, and is as before elsewhere
abbrev pub CountsRun : ℕ → ℕ → Outcome → Type 0
CountsRun before now outcome.WriteFault = CountsFault before now
CountsRun before now ended = now ≡ before

-- by the end of a run of code: as a run of a graph, or its whole text where it is wild or traps
abbrev pub Executes : Account → Option (List ℕ) → Option (List ℕ) → Exec → Type 0
Executes a old new (exec.Run ended) = Writes a old new ended
Executes a old new exec.Wild = Appends old new (account_text a) × IsWild a.report.how
Executes a old new exec.Trap = Appends old new (account_text a) × IsTrap a.report.how

-- the count of the sink's faults, as for a run of a graph
abbrev pub CountsExec : ℕ → ℕ → Exec → Type 0
CountsExec before now (exec.Run ended) = CountsRun before now ended
CountsExec before now exec.Wild = now ≡ before
CountsExec before now exec.Trap = now ≡ before

-- the text was written, or nothing for want of memory, or a prefix of it before a fault
abbrev pub Puts : {T : Type 0} → Option (List ℕ) → Option (List ℕ) → List ℕ → Result T Broken → Type 0
Puts old new text (Ok x) = Appends old new text
Puts old new text (Err broken.NoMemory) = new ≡ old
Puts old new text (Err broken.WriteFault) = AppendsPrefix old new text

-- the count of the sink's faults rose, or stands at its last value, where a write failed, and is as before elsewhere
abbrev pub CountsPuts : {T : Type 0} → ℕ → ℕ → Result T Broken → Type 0
CountsPuts before now (Ok x) = now ≡ before
CountsPuts before now (Err broken.NoMemory) = now ≡ before
CountsPuts before now (Err broken.WriteFault) = CountsFault before now

-- what broke a run off, as its outcome
abbrev pub outcome_of : Broken → Outcome
outcome_of broken.NoMemory = outcome.Stopped NoMemory
outcome_of broken.WriteFault = outcome.WriteFault

-- the last lines were taken whole, or none for want of memory
abbrev pub FinishesStopped : Report → Option ℕ → Option (List ℕ) → Option (List ℕ) → Stop → Type 0
FinishesStopped r instructions old new NoMemory = new ≡ old
FinishesStopped r instructions old new stop = Appends old new (joined (closing_lines r instructions)) × (Some r.how ≡ end_of_stop stop)

-- by the outcome: the last lines of a run that counted so many instructions, if it counts them, or none of the lines for want of memory, or a prefix of them
-- before a fault
abbrev pub Finishes : Report → Option ℕ → Option (List ℕ) → Option (List ℕ) → Outcome → Type 0
Finishes r instructions old new (outcome.Quiet missing) = Appends old new (joined (closing_lines r instructions)) × (r.how ≡ Quiet)
    × (missing ≡ length (missing_of r.how r.results r.printed))
Finishes r instructions old new (outcome.Stopped stop) = FinishesStopped r instructions old new stop
Finishes r instructions old new outcome.WriteFault = AppendsPrefix old new (joined (closing_lines r instructions))

-- the same of a run that stopped, whatever it printed
abbrev pub StopsSo : Stop → Tally → Option (List ℕ) → Option (List ℕ) → Outcome → Type 0
StopsSo stop tally old new result =
    (how : End) (results : ℕ) (printed : List (ℕ × ℕ)) → end_of_stop stop ≡ Some how
    → Finishes (told_of printed how results tally.counts) tally.instructions old new result

-- the same of a run of code
abbrev pub FinishesSo : Report → Option ℕ → Option (List ℕ) → Option (List ℕ) → Exec → Type 0
FinishesSo r instructions old new (exec.Run ended) = Finishes r instructions old new ended
FinishesSo r instructions old new exec.Wild = Appends old new (joined (closing_lines r instructions)) × IsWild r.how
FinishesSo r instructions old new exec.Trap = Appends old new (joined (closing_lines r instructions)) × IsTrap r.how

-- the same of a run that ended so, whatever it printed
abbrev pub HaltsSo : End → Tally → Option (List ℕ) → Option (List ℕ) → Exec → Type 0
HaltsSo how tally old new result =
    (results : ℕ) (printed : List (ℕ × ℕ)) → FinishesSo (told_of printed how results tally.counts) tally.instructions old new result
