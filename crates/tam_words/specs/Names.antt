-- The names of modes, shapes and causes.
-- The rule in words: docs/FORMATS.md, "Command line".
use Rattle.std.specs.Prelude.{ℕ, Bool, true, false, List, [], ◌∷◌, Option, codes, find}
use Rattle.std.specs.Str.{bytes_eq}
use Rattle.tam_words.specs.declared.mode.Mode.{Mode}
use Rattle.tam_make.specs.declared.shape.Shape.{Shape}
use Rattle.tam_make.specs.declared.shape.Shape.TheVariants.{Ladder, Wave}
use Rattle.tam_words.specs.declared.mode.Mode.TheVariants.{Graph, Tl0, Rv32, Check, EmitDg, Sets, Parts}
use Rattle.tam_words.specs.declared.mode.Mode.TheVariants.{EmitTl0, EmitAsm, EmitImage, Assemble, ExecTl0, ExecRv32, Make}
use Rattle.tam_words.specs.declared.usage_cause.UsageCause.{UsageCause}
use Rattle.tam_words.specs.declared.usage_cause.UsageCause.TheVariants.{Words, Mode as Unknown_mode, Extra, Shape as Unknown_shape, Count}
use Rattle.tam_words.specs.declared.usage_cause.UsageCause.TheVariants.{Args, Order, Budget, Frames, Cells, ArgsCount}

-- ---- modes

-- the word that names a mode
unfoldable pub mode_name : Mode → List ℕ
mode_name Graph = codes "graph"
mode_name Tl0 = codes "tl0"
mode_name Rv32 = codes "rv32"
mode_name Check = codes "check"
mode_name EmitDg = codes "emit-dg"
mode_name Sets = codes "sets"
mode_name Parts = codes "parts"
mode_name EmitTl0 = codes "emit-tl0"
mode_name EmitAsm = codes "emit-asm"
mode_name EmitImage = codes "emit-image"
mode_name Assemble = codes "assemble"
mode_name ExecTl0 = codes "exec-tl0"
mode_name ExecRv32 = codes "exec-rv32"
mode_name Make = codes "make"

-- every mode
abbrev pub modes : List Mode
modes = Graph ∷ Tl0 ∷ Rv32 ∷ Check ∷ EmitDg ∷ Sets ∷ Parts ∷ EmitTl0 ∷ EmitAsm ∷ EmitImage ∷ Assemble ∷ ExecTl0 ∷ ExecRv32 ∷ Make ∷ []

-- the mode that a word names
unfoldable pub mode_of : List ℕ → Option Mode
mode_of word = find (λ mode. bytes_eq word (mode_name mode)) modes

-- the mode makes a run
abbrev pub runs : Mode → Bool
runs Graph = true
runs Tl0 = true
runs Rv32 = true
runs Check = false
runs EmitDg = false
runs Sets = false
runs Parts = false
runs EmitTl0 = false
runs EmitAsm = false
runs EmitImage = false
runs Assemble = false
runs ExecTl0 = true
runs ExecRv32 = true
runs Make = false

-- the mode makes its input: a shape stands in the place of the file's name, and a count behind it
abbrev pub makes : Mode → Bool
makes Graph = false
makes Tl0 = false
makes Rv32 = false
makes Check = false
makes EmitDg = false
makes Sets = false
makes Parts = false
makes EmitTl0 = false
makes EmitAsm = false
makes EmitImage = false
makes Assemble = false
makes ExecTl0 = false
makes ExecRv32 = false
makes Make = true

-- the mode reads the file of its name
abbrev pub reads_file : Mode → Bool
reads_file Graph = true
reads_file Tl0 = true
reads_file Rv32 = true
reads_file Check = true
reads_file EmitDg = true
reads_file Sets = true
reads_file Parts = true
reads_file EmitTl0 = true
reads_file EmitAsm = true
reads_file EmitImage = true
reads_file Assemble = true
reads_file ExecTl0 = true
reads_file ExecRv32 = true
reads_file Make = false

-- ---- shapes

-- the word that names a shape
abbrev pub shape_name : Shape → List ℕ
shape_name Ladder = codes "ladder"
shape_name Wave = codes "wave"

-- every shape
abbrev pub shapes : List Shape
shapes = Ladder ∷ Wave ∷ []

-- the shape that a word names
abbrev pub shape_of : List ℕ → Option Shape
shape_of word = find (λ shape. bytes_eq word (shape_name shape)) shapes

-- ---- causes

-- a cause by its name
abbrev pub cause_name : UsageCause → List ℕ
cause_name Words = codes "Words"
cause_name Unknown_mode = codes "Mode"
cause_name Extra = codes "Extra"
cause_name Unknown_shape = codes "Shape"
cause_name Count = codes "Count"
cause_name Args = codes "Args"
cause_name Order = codes "Order"
cause_name Budget = codes "Budget"
cause_name Frames = codes "Frames"
cause_name Cells = codes "Cells"
cause_name ArgsCount = codes "ArgsCount"
