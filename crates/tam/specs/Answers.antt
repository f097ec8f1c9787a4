-- What the program writes, and with which status, by what the words ask for and by what is left of the files.
-- The rule in words: docs/FORMATS.md, "Command line".
use Rattle.std.specs.Prelude.{ℕ, ◌≡◌, List, Some}
use Rattle.tam_graph.specs.Graphs.{Graph}
use Rattle.tam_make.specs.declared.shape.Shape.{Shape}
use Rattle.tam_run.specs.declared.level.Level.{Level}
use Rattle.tam_words.specs.declared.mode.Mode.TheVariants as mode
use Rattle.tam_words.specs.Jobs.{Asked}
use Rattle.tam_input.specs.declared.ending.Ending.{Ending}
use Rattle.tam_input.specs.declared.ending.Ending.TheVariants as ending
use Rattle.tam_input.specs.declared.refusal.Refusal.{Refusal}
use Rattle.tam_input.specs.Told.{Told, Contents}
use Rattle.tam_input.specs.Refusing.{Refuses, no_memory_line, refusal_ending, refusal_line}
use Rattle.tam_input.specs.Inputs.{Request, IsInput}
use Rattle.tl0_code.specs.ThreadCode.{Program}
use Rattle.rv_inst.specs.Images.{Image}
use Rattle.tam.specs.SaidRuns.{SaysRun}
use Rattle.tam.specs.MadeRuns.{SaysMade}
use Rattle.tam.specs.GraphAnswers.{AsksGraph, run_of}
use Rattle.tam.specs.CodeAnswers.{AsksCode, code_run_of}
use Rattle.tam.specs.ImageAnswers.{AsksImage, image_run_of}
use Rattle.tam.specs.Due.{IsDue}

-- by what is asked of these bytes, the ending and the text that are answered
pub data AnswerTo (ask : Request) (bytes : List ℕ) : Ending → List ℕ → Type 0 where
  -- what is due to them
  due : {end : Ending} {text : List ℕ} → IsDue ask bytes end text → AnswerTo ask bytes end text
  -- they spell a graph that is run
  ran : {level : Level} {g : Graph} {end : Ending} {text : List ℕ} → AsksGraph ask bytes level g → SaysRun (run_of level ask g) end text
      → AnswerTo ask bytes end text
  -- or thread code that is
  code_ran : {p : Program} {end : Ending} {text : List ℕ} → AsksCode ask bytes p → SaysRun (code_run_of ask p) end text → AnswerTo ask bytes end text
  -- or the file of an image that is
  image_ran : {image : Image} {end : Ending} {text : List ℕ} → AsksImage ask bytes image → SaysRun (image_run_of ask image) end text
      → AnswerTo ask bytes end text
  -- a large input is made, and run at each level
  made : {shape : Shape} {end : Ending} {text : List ℕ} → ask.mode ≡ mode.Make → ask.shape ≡ Some shape → SaysMade shape ask.count end text
      → AnswerTo ask bytes end text
  -- or memory is wanted before a line was written
  wanted : AnswerTo ask bytes ending.NoMemory no_memory_line

-- by what the words ask for, by the contents of the files and by what reading them did, the ending and the text that are answered
pub data Answer (ask : Asked) (contents : Contents) (before now : Told) : Ending → List ℕ → Type 0 where
  -- a refusal before the job's text is looked into
  refused : {refusal : Refusal} → Refuses ask contents before now refusal → Answer ask contents before now (refusal_ending refusal) (refusal_line refusal)
  -- the job's text is these bytes, which are answered
  answered : {request : Request} {bytes text : List ℕ} {end : Ending} → IsInput ask contents before now request bytes → AnswerTo request bytes end text
      → Answer ask contents before now end text
