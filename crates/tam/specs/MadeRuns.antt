-- What is written of a large input that is made: its head, then for each level a line and the text of its run there.
-- The rule in words: docs/FORMATS.md, "The text of a large input".
use Rattle.std.specs.Prelude.{ℕ, ◌≡◌, ◌==◌, true, false, List, [], ◌∷◌, ◌++◌, map, flat_map, length, decimal, codes}
use Rattle.tam_graph.specs.Graphs.{Graph}
use Rattle.tam_graph.specs.Reading.{Reads}
use Rattle.tam_graph.specs.Accepted.{IsAccepted}
use Rattle.tam_make.specs.declared.shape.Shape.{Shape}
use Rattle.tam_make.specs.declared.shape.Shape.TheVariants.{Ladder, Wave}
use Rattle.tam_make.specs.MadeTexts.{made_text}
use Rattle.tam_msgs.specs.Runs.{line, joined, result_line}
use Rattle.tam_run.specs.declared.level.Level.{Level}
use Rattle.tam_run.specs.declared.level.Level.TheVariants as level
use Rattle.tam_run.specs.Accounts.{Account, instructions_of, closing_lines}
use Rattle.tam_run.specs.Levels.{account_at}
use Rattle.tam_words.specs.Names.{shape_name}
use Rattle.tam_words.specs.Options.{usual_limits}
use Rattle.tam_input.specs.declared.ending.Ending.{Ending}
use Rattle.tam_input.specs.declared.ending.Ending.TheVariants.{Done, NoMemory}
use Rattle.tam_input.specs.Endings.{code_of}
use Rattle.tam_input.specs.Refusing.{no_memory_line}
use Rattle.tam.specs.SaidRuns.{ending_of}

-- ---- levels

-- the levels at which a large input is run, in their order
abbrev pub levels : List Level
levels = level.Graph ∷ level.Tl0 ∷ level.Rv32 ∷ []

-- a level by its name
abbrev pub level_name : Level → List ℕ
level_name level.Graph = codes "graph"
level_name level.Tl0 = codes "tl0"
level_name level.Rv32 = codes "rv32"

-- the argument of a large input's `main`
abbrev pub argument_of : Shape → ℕ → ℕ
argument_of Ladder n = 0
argument_of Wave n = n

-- what the run of a large input's graph tells at a level: under the empty order, within the usual limits
abbrev pub made_run : Shape → ℕ → Graph → Level → Account
made_run shape n g level = account_at level g (argument_of shape n ∷ []) [] usual_limits

-- ---- lines

-- the lines before the first level: the shape with its number, and of how many bytes its text is
abbrev pub head_lines : Shape → ℕ → List (List ℕ)
head_lines shape n =
    line (codes "shape " ++ shape_name shape ++ codes " " ++ decimal n) ∷ line (codes "bytes " ++ decimal (length (made_text shape n))) ∷ []

-- the line that begins a level
abbrev pub level_line : Level → List ℕ
level_line level = line (codes "level " ++ level_name level)

-- the lines of a run
abbrev pub run_lines : Account → List (List ℕ)
run_lines a = map result_line a.report.printed ++ closing_lines a.report (instructions_of a.machine)

-- the lines of some levels
abbrev pub level_lines : (Level → Account) → List Level → List (List ℕ)
level_lines run ls = flat_map (λ level. level_line level ∷ run_lines (run level)) ls

-- all lines
abbrev pub made_lines : Shape → ℕ → Graph → List (List ℕ)
made_lines shape n g = head_lines shape n ++ level_lines (made_run shape n g) levels

-- ---- the ending

-- the first ending that isn't success
abbrev pub first_ending : List Ending → Ending
first_ending [] = Done
first_ending (end ∷ ends) = elim (code_of end == 0) [ true ↦ first_ending ends | false ↦ end ]

-- how the program ends behind runs at some levels
abbrev pub levels_ending : (Level → Account) → List Level → Ending
levels_ending run ls = first_ending (map (λ level. ending_of (run level).report) ls)

-- and behind those of a large input
abbrev pub made_ending : Shape → ℕ → Graph → Ending
made_ending shape n g = levels_ending (made_run shape n g) levels

-- ---- what is said

-- the ending and the text that are said of lines: all of them, or that memory was wanted behind the first of them
pub data SaysLines (lines : List (List ℕ)) (meant : Ending) : Ending → List ℕ → Type 0 where
  all_lines : SaysLines lines meant meant (joined lines)
  first_lines : (prefix rest : List (List ℕ)) → lines ≡ prefix ++ rest → SaysLines lines meant NoMemory (joined prefix ++ no_memory_line)

-- the ending and the text that are said of a large input: its lines, whose graph is that of its text, or that memory was wanted
pub data SaysMade (shape : Shape) (n : ℕ) : Ending → List ℕ → Type 0 where
  of_graph : {g : Graph} {end : Ending} {text : List ℕ} → Reads (made_text shape n) g → IsAccepted g
      → SaysLines (made_lines shape n g) (made_ending shape n g) end text → SaysMade shape n end text
  no_graph : SaysMade shape n NoMemory no_memory_line
