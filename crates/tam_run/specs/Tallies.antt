-- What a run counts, as the code has it.
use Rattle.std.specs.Prelude.{List, ℕ, ◌++◌}
use Rattle.tam_msgs.specs.Runs.{count_lines}
use Rattle.tam_run.specs.declared.tally.Tally.{Tally}
use Rattle.tam_run.specs.Accounts.{instructions_of, instruction_lines}
use Rattle.tam_run.specs.Telling.{Stand}

-- what was counted where a run stands
abbrev pub tally_of : Stand → Tally
tally_of s = record { counts = s.counts; instructions = instructions_of s.machine }

-- the lines of the counts
abbrev pub tally_lines : Tally → List (List ℕ)
tally_lines t = count_lines t.counts.events t.counts.activations t.counts.cells ++ instruction_lines t.instructions
