-- What is due to a graph's text, and which run of a graph is asked for.
-- The rule in words: docs/FORMATS.md, "Command line".
use Rattle.std.specs.Prelude.{ℕ, ◌≡◌, ◌≢◌, Bool, true, false, List, [], ◌∷◌, length, Option, Some, None}
use Rattle.tam_graph.specs.declared.place.Place.{Place}
use Rattle.tam_graph.specs.declared.check_cause.CheckCause.{CheckCause}
use Rattle.tam_graph.specs.Graphs.{Graph, code_of, params_of}
use Rattle.tam_graph.specs.Accepted.{IsAccepted}
use Rattle.tam_graph.specs.Texts.{canonical}
use Rattle.tam_graph.specs.Reading.{Reads}
use Rattle.tam_read.specs.declared.cause.ReadCause.{ReadCause}
use Rattle.tam_read.specs.Faults.{first_fault}
use Rattle.tam_read.specs.Placed.{line_at, lines_in}
use Rattle.tam_check.specs.FirstFault.{first_fault as first_refused}
use Rattle.tam_run.specs.declared.level.Level.{Level}
use Rattle.tam_run.specs.declared.level.Level.TheVariants as level
use Rattle.tam_run.specs.Accounts.{Account}
use Rattle.tam_run.specs.Levels.{account_at}
use Rattle.tam_words.specs.declared.mode.Mode.{Mode}
use Rattle.tam_words.specs.declared.mode.Mode.TheVariants as mode
use Rattle.tam_words.specs.declared.usage_cause.UsageCause.TheVariants.{ArgsCount}
use Rattle.tam_list.specs.Listings.{check_text, sets_text, parts_text}
use Rattle.tam_input.specs.declared.ending.Ending.{Ending}
use Rattle.tam_input.specs.declared.ending.Ending.TheVariants as ending
use Rattle.tam_input.specs.Refusing.{usage_line}
use Rattle.tam_input.specs.Inputs.{Request}
use Rattle.tl0_code.specs.CodeTexts.{program_text}
use Rattle.tl0_keep.specs.Compiled.{compiled}
use Rattle.rv_keep.specs.Image.{image_of}
use Rattle.rv_image.specs.ImageFiles.{image_bytes}
use Rattle.rv_asm.specs.AsmText.{asm_text}
use Rattle.tam.specs.AnswerLines.{refused_line, read_cause_name, check_cause_name}

-- the mode reads a graph's text
abbrev pub reads_graph : Mode → Bool
reads_graph mode.Graph = true
reads_graph mode.Tl0 = true
reads_graph mode.Rv32 = true
reads_graph mode.Check = true
reads_graph mode.EmitDg = true
reads_graph mode.Sets = true
reads_graph mode.Parts = true
reads_graph mode.EmitTl0 = true
reads_graph mode.EmitAsm = true
reads_graph mode.EmitImage = true
reads_graph mode.Assemble = false
reads_graph mode.ExecTl0 = false
reads_graph mode.ExecRv32 = false
reads_graph mode.Make = false

-- the bytes are a text of an accepted graph
pub record Spells (bytes : List ℕ) (g : Graph) : Type 0 where
  pub reads : Reads bytes g
  pub accepted : IsAccepted g

-- the text that a mode writes of an accepted graph, where it makes no run
abbrev pub listing : Mode → Graph → Option (List ℕ)
listing mode.Graph g = None
listing mode.Tl0 g = None
listing mode.Rv32 g = None
listing mode.Check g = Some (check_text g)
listing mode.EmitDg g = Some (canonical g)
listing mode.Sets g = Some (sets_text g)
listing mode.Parts g = Some (parts_text g)
listing mode.EmitTl0 g = Some (program_text (compiled g))
listing mode.EmitAsm g = Some (asm_text (image_of (compiled g)))
listing mode.EmitImage g = Some (image_bytes (image_of (compiled g)))
listing mode.Assemble g = None
listing mode.ExecTl0 g = None
listing mode.ExecRv32 g = None
listing mode.Make g = None

-- ---- runs

-- the level at which a mode runs a graph, if it does
abbrev pub level_of : Mode → Option Level
level_of mode.Graph = Some level.Graph
level_of mode.Tl0 = Some level.Tl0
level_of mode.Rv32 = Some level.Rv32
level_of mode.Check = None
level_of mode.EmitDg = None
level_of mode.Sets = None
level_of mode.Parts = None
level_of mode.EmitTl0 = None
level_of mode.EmitAsm = None
level_of mode.EmitImage = None
level_of mode.Assemble = None
level_of mode.ExecTl0 = None
level_of mode.ExecRv32 = None
level_of mode.Make = None

-- what the run of a graph that is asked for tells, at a level
abbrev pub run_of : Level → Request → Graph → Account
run_of level ask g = account_at level g ask.args ask.order ask.limits

-- a run of the graph of the bytes at a level is asked for, and each param of `main` has an argument
pub record AsksGraph (ask : Request) (bytes : List ℕ) (level : Level) (g : Graph) : Type 0 where
  pub mode : level_of ask.mode ≡ Some level
  pub spelled : Spells bytes g
  pub one_each : length ask.args ≡ params_of (code_of g g.main)

-- ---- what is due

-- by what is asked of these bytes as a graph's text, the ending and the text that are due where no run is
pub data GraphDue (ask : Request) (bytes : List ℕ) : Ending → List ℕ → Type 0 where
  -- the bytes read as no graph
  not_graph : {n : ℕ} {cause : ReadCause} → first_fault bytes ≡ (n, cause) ∷ [] → GraphDue ask bytes ending.Refused (refused_line n (read_cause_name cause))
  -- they read as one that isn't accepted
  not_accepted : {g : Graph} {place : Place} {cause : CheckCause} → Reads bytes g → first_refused g ≡ Some (place, cause)
      → GraphDue ask bytes ending.Refused (refused_line (line_at (lines_in bytes) place) (check_cause_name cause))
  -- as an accepted one, which is listed
  listed : {g : Graph} {text : List ℕ} → Spells bytes g → listing ask.mode g ≡ Some text → GraphDue ask bytes ending.Done text
  -- or is to be run, and has another number of params than there are arguments
  wrong_count : {level : Level} {g : Graph} → level_of ask.mode ≡ Some level → Spells bytes g → length ask.args ≢ params_of (code_of g g.main)
      → GraphDue ask bytes ending.Usage (usage_line ArgsCount)
