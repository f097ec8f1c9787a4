-- The machine that a call hands out: by which run of one is asked for, and by how the program ends.
-- The rule in words: docs/FORMATS.md, "Command line"; docs/MACHINE.md, "The host".
use Rattle.std.specs.Prelude.{ℕ, ◌≡◌, ◌<◌, Bool, true, false, List, [], ◌∷◌, length, take, Option, Some}
use Rattle.tam_graph.specs.Graphs.{Graph}
use Rattle.tam_make.specs.declared.shape.Shape.{Shape}
use Rattle.tam_make.specs.MadeTexts.{made_text}
use Rattle.tam_msgs.specs.declared.item.Item.{Item}
use Rattle.tam_msgs.specs.declared.limits.Limits.{Limits}
use Rattle.tam_run.specs.declared.level.Level.{Level}
use Rattle.tam_run.specs.declared.level.Level.TheVariants as level
use Rattle.tam_run.specs.Accounts.{Account}
use Rattle.tam_run.specs.HandedOut.{with_left, handed_out}
use Rattle.tam_words.specs.declared.mode.Mode.TheVariants as mode
use Rattle.tam_words.specs.Options.{usual_limits}
use Rattle.tam_words.specs.Jobs.{Asked}
use Rattle.tam_input.specs.declared.ending.Ending.{Ending}
use Rattle.tam_input.specs.declared.ending.Ending.TheVariants.{Done, Refused, Usage, ReadFault, ResultsMissing, DoubleWrite, OutOfRange, FramesFull}
use Rattle.tam_input.specs.declared.ending.Ending.TheVariants.{CellsFull, BudgetSpent, WriteFault, NoMemory, Broken, NoWords}
use Rattle.tam_input.specs.Told.{Contents}
use Rattle.tam_input.specs.Inputs.{Request}
use Rattle.tl0_keep.specs.Compiled.{compiled}
use Rattle.rv_inst.specs.Harts.{Hart}
use Rattle.rv_inst.specs.Images.{Image}
use Rattle.rv_keep.specs.Image.{image_of}
use Rattle.rv_keep.specs.HostRuns.{host_run}
use Rattle.tam.specs.MadeRuns.{argument_of, made_run}
use Rattle.tam.specs.GraphAnswers.{Spells, AsksGraph}
use Rattle.tam.specs.ImageAnswers.{AsksImage}
use Rattle.tam.specs.Asks.{AsksText}

-- whether what was asked for was run to an end or listed, and written whole
abbrev pub has_answered : Ending → Bool
has_answered Done = true
has_answered Refused = false
has_answered Usage = false
has_answered ReadFault = false
has_answered ResultsMissing = true
has_answered DoubleWrite = true
has_answered OutOfRange = true
has_answered FramesFull = true
has_answered CellsFull = true
has_answered BudgetSpent = true
has_answered WriteFault = false
has_answered NoMemory = false
has_answered Broken = true
has_answered NoWords = false

-- the machine as the run of an image leaves it
abbrev pub left_by : Image → List ℕ → List Item → Limits → Hart
left_by image args order limits = ((host_run image args order limits).1).hart

-- by what is asked of these bytes, this is the machine as the run that is asked for leaves it: none is where no run of a machine is asked for
pub data LeavesMachine (ask : Request) (bytes : List ℕ) (left : Hart) : Type 0 where
  -- a graph is run at the level of the machine
  of_graph : {g : Graph} → AsksGraph ask bytes level.Rv32 g → left ≡ left_by (image_of (compiled g)) ask.args ask.order ask.limits
      → LeavesMachine ask bytes left
  -- or the image of a file is
  of_image : {image : Image} → AsksImage ask bytes image → left ≡ left_by image ask.args ask.order ask.limits → LeavesMachine ask bytes left
  -- or a large input is, there among the other levels
  of_made : {shape : Shape} {g : Graph} → ask.mode ≡ mode.Make → ask.shape ≡ Some shape → Spells (made_text shape ask.count) g
      → left ≡ left_by (image_of (compiled g)) (argument_of shape ask.count ∷ []) [] usual_limits → LeavesMachine ask bytes left

-- a run is asked for that leaves the machine so
pub record AsksMachine (words : Asked) (contents : Contents) (left : Hart) : Type 0 where
  pub ask : Request
  pub bytes : List ℕ
  pub input : AsksText words contents ask bytes
  pub leaves : LeavesMachine ask bytes left

-- The place for a machine. Where a run is asked for that leaves one, and it came to its end and was written whole, the place holds the machine as the run
-- leaves it. Else it holds what it held.
pub record HandsOver (Leaves : Hart → Type 0) (end : Ending) (old new : Option Hart) : Type 0 where
  pub handed : (left : Hart) → Leaves left → has_answered end ≡ true → new ≡ Some left
  pub kept : ((left : Hart) → Leaves left → has_answered end ≡ false) → new ≡ old

-- ---- large inputs

-- the machine that is there behind whole runs at some levels, where this one was there before them
abbrev pub behind_levels : (Level → Account) → List Level → Option Hart → Option Hart
behind_levels run [] old = old
behind_levels run (level ∷ ls) old = behind_levels run ls (with_left (run level).machine old)

-- the machine that is there behind runs at some levels: behind all of them where they were whole, else behind those before the one that was broken off
pub record BehindLevels (run : Level → Account) (ls : List Level) (end : Ending) (old new : Option Hart) : Type 0 where
  pub whole : has_answered end ≡ true → new ≡ behind_levels run ls old
  pub broken : has_answered end ≡ false → (k : ℕ) × (k < length ls) × (new ≡ behind_levels run (take k ls) old)

-- the graph of a large input was run at each level: where the runs were whole, the machine is there as its run leaves it, else the one that was there
abbrev pub HandsMade : Shape → ℕ → Ending → Option Hart → Option Hart → Type 0
HandsMade shape n end old new =
    (g : Graph) × Spells (made_text shape n) g × (new ≡ handed_out (has_answered end) (made_run shape n g level.Rv32).machine old)
