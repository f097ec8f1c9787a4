-- What is due to an input that is read and of which no run is asked: its listing where it is accepted, and else its first fault.
-- The rule in words: docs/FORMATS.md, "Command line".
use Rattle.std.specs.Prelude.{ℕ, ◌≡◌, true, List, [], ◌∷◌, take}
use Rattle.tam_words.specs.declared.mode.Mode.TheVariants as mode
use Rattle.tam_run.specs.declared.level.Level.{Level}
use Rattle.tam_graph.specs.Graphs.{Graph}
use Rattle.tam_input.specs.declared.ending.Ending.{Ending}
use Rattle.tam_input.specs.declared.ending.Ending.TheVariants.{Done, Refused}
use Rattle.tam_input.specs.Inputs.{Request}
use Rattle.tl0_code.specs.ThreadCode.{Program}
use Rattle.rv_inst.specs.Images.{Image}
use Rattle.rv_image.specs.ImageFiles.{image_bytes}
use Rattle.rv_asm.specs.declared.asm_error.AsmCause.{AsmCause}
use Rattle.rv_asm.specs.Faults.{asm_faults}
use Rattle.rv_asm.specs.Reading.{AsmReads}
use Rattle.tam.specs.AnswerLines.{refused_line, asm_cause_name}
use Rattle.tam.specs.GraphAnswers.{GraphDue, AsksGraph, reads_graph}
use Rattle.tam.specs.CodeAnswers.{CodeDue, AsksCode}
use Rattle.tam.specs.ImageAnswers.{ImageDue, AsksImage}

-- the ending and the text that are due to these bytes as an assembly text
pub data AssemblyDue (bytes : List ℕ) : Ending → List ℕ → Type 0 where
  -- they are the text of an image
  assembled : {image : Image} → AsmReads bytes image → AssemblyDue bytes Done (image_bytes image)
  -- or none
  not_assembled : {n : ℕ} {cause : AsmCause} → take 1 (asm_faults bytes) ≡ (n, cause) ∷ [] → AssemblyDue bytes Refused (refused_line n (asm_cause_name cause))

-- the ending and the text that are due to these bytes
pub data IsDue (ask : Request) (bytes : List ℕ) : Ending → List ℕ → Type 0 where
  of_graph : {end : Ending} {text : List ℕ} → reads_graph ask.mode ≡ true → GraphDue ask bytes end text → IsDue ask bytes end text
  of_assembly : {end : Ending} {text : List ℕ} → ask.mode ≡ mode.Assemble → AssemblyDue bytes end text → IsDue ask bytes end text
  of_code : {end : Ending} {text : List ℕ} → ask.mode ≡ mode.ExecTl0 → CodeDue ask bytes end text → IsDue ask bytes end text
  of_image : {end : Ending} {text : List ℕ} → ask.mode ≡ mode.ExecRv32 → ImageDue ask bytes end text → IsDue ask bytes end text

-- or a run is asked for
pub data HasRun (ask : Request) (bytes : List ℕ) : Type 0 where
  graph_run : {level : Level} {g : Graph} → AsksGraph ask bytes level g → HasRun ask bytes
  code_run : {p : Program} → AsksCode ask bytes p → HasRun ask bytes
  image_run : {image : Image} → AsksImage ask bytes image → HasRun ask bytes
