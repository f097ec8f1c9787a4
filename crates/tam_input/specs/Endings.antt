-- How the program ends: a code for each ending.
-- The rule in words: docs/FORMATS.md, "Command line".
use Rattle.std.specs.Prelude.{ℕ}
use Rattle.tam_input.specs.declared.ending.Ending.{Ending}
use Rattle.tam_input.specs.declared.ending.Ending.TheVariants.{Done, Refused, Usage, ReadFault, ResultsMissing, DoubleWrite, OutOfRange, FramesFull}
use Rattle.tam_input.specs.declared.ending.Ending.TheVariants.{CellsFull, BudgetSpent, WriteFault, NoMemory, Broken, NoWords}

-- the exit code of an ending
abbrev pub code_of : Ending → ℕ
code_of Done = 0
code_of Refused = 1
code_of Usage = 2
code_of ReadFault = 3
code_of ResultsMissing = 4
code_of DoubleWrite = 5
code_of OutOfRange = 6
code_of FramesFull = 7
code_of CellsFull = 8
code_of BudgetSpent = 9
code_of WriteFault = 10
code_of NoMemory = 11
code_of Broken = 12
code_of NoWords = 13
