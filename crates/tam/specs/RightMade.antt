-- That the runs of a large input are right, and what the sink took of them.
-- The rule in words: docs/FORMATS.md, "The text of a large input".
use Rattle.std.specs.Prelude.{ℕ, ◌≡◌, ◌⊎◌, true, List, [], ◌∷◌, ◌++◌, Option, Some}
use Rattle.std.specs.Io.KnownBytes.{Appends}
use Rattle.tam_edge.specs.Whole.{AppendsPrefix}
use Rattle.tam_graph.specs.Graphs.{Graph}
use Rattle.tam_make.specs.declared.shape.Shape.{Shape}
use Rattle.tam_make.specs.MadeTexts.{made_text}
use Rattle.tam_msgs.specs.Runs.{Quiet, joined}
use Rattle.tam_flow.specs.Headline.{IsRight}
use Rattle.tam_run.specs.declared.level.Level.{Level}
use Rattle.tl0_keep.specs.ThreadLaws.{HasRoomAside}
use Rattle.tam_run.specs.RightRuns.{HasRoom, LiveSuffice}
use Rattle.tam_words.specs.Names.{makes, shape_of}
use Rattle.tam_words.specs.Options.{usual_limits}
use Rattle.tam_words.specs.Jobs.{Asked, Job, JobParts}
use Rattle.tam_input.specs.declared.ending.Ending.{Ending}
use Rattle.tam_input.specs.declared.ending.Ending.TheVariants.{WriteFault, NoMemory}
use Rattle.tam_input.specs.Refusing.{no_memory_line}
use Rattle.tam.specs.MadeRuns.{argument_of, made_run, made_lines, made_ending}
use Rattle.tam.specs.GraphAnswers.{Spells}

-- a large input is asked for: of this shape, with this number
pub record AsksMade (words : Asked) (shape : Shape) (n : ℕ) : Type 0 where
  pub job : JobParts
  pub asked : words ≡ Job job
  pub makes_it : makes job.mode ≡ true
  pub shape_is : shape_of job.name ≡ Some shape
  pub count_is : job.count ≡ n

-- the first of some lines, and then that memory was wanted, were taken in some way
abbrev pub LinesOut : (List ℕ → Type 0) → List (List ℕ) → Type 0
LinesOut Taken lines = (prefix rest : List (List ℕ)) × (lines ≡ prefix ++ rest) × Taken (joined prefix ++ no_memory_line)

-- What the sink took of lines. Under the ending that is meant it took them all. Else memory was wanted behind the first of them, or a write failed.
pub record TookLines (lines : List (List ℕ)) (meant end : Ending) (old new : Option (List ℕ)) : Type 0 where
  pub whole : end ≡ meant → Appends old new (joined lines)
  pub first_lines : end ≡ NoMemory → LinesOut (Appends old new) lines
  pub prefix : end ≡ WriteFault → AppendsPrefix old new (joined lines) ⊎ LinesOut (AppendsPrefix old new) lines
  pub no_other : (end ≡ meant) ⊎ ((end ≡ WriteFault) ⊎ (end ≡ NoMemory))

-- Of a large input that is asked for: its text spells an accepted graph. At each level the run of this graph is right, and quiet where there is room.
-- And the sink took its lines, among them those of the runs, under the first of their endings that isn't success.
pub record IsRightMade (shape : Shape) (n : ℕ) (end : Ending) (old new : Option (List ℕ)) : Type 0 where
  pub g : Graph
  pub spelled : Spells (made_text shape n) g
  pub right : (level : Level) → IsRight g (argument_of shape n ∷ []) usual_limits (made_run shape n g level).report
  pub complete : (level : Level) → HasRoom g (argument_of shape n ∷ []) usual_limits → (made_run shape n g level).report.how ≡ Quiet
  pub complete_live : (level : Level) → HasRoomAside g (argument_of shape n ∷ []) usual_limits → LiveSuffice level g (argument_of shape n ∷ []) [] usual_limits
      → (made_run shape n g level).report.how ≡ Quiet
  pub took : TookLines (made_lines shape n g) (made_ending shape n g) end old new
