-- What a run tells: its report, and at the level of the machine the machine as the run leaves it.
-- The rule in words: docs/FORMATS.md, "The text of a run".
use Rattle.std.specs.Prelude.{codes, decimal, ℕ, List, [], ◌∷◌, ◌++◌, Option, Some, None}
use Rattle.tam_msgs.specs.declared.counts.Counts.{Counts}
use Rattle.tam_msgs.specs.declared.item.Item.{Item}
use Rattle.tam_msgs.specs.declared.limits.Limits.{Limits}
use Rattle.tam_msgs.specs.Runs.{End, Report, line, last_lines, text_of}
use Rattle.rv_inst.specs.Harts.{Hart}
use Rattle.rv_inst.specs.Images.{Image}
use Rattle.rv_keep.specs.HostRuns.{host_run, image_told}

-- what a run tells
pub record Account : Type 0 where
  pub report : Report
  pub machine : Option Hart

-- ---- the text

-- how many instructions were carried out, where there is a machine
abbrev pub instructions_of : Option Hart → Option ℕ
instructions_of None = None
instructions_of (Some h) = Some h.steps

-- the line of so many instructions
abbrev pub instructions_line : ℕ → List ℕ
instructions_line n = line (codes "instructions " ++ decimal n)

-- that line, where instructions are counted
abbrev pub instruction_lines : Option ℕ → List (List ℕ)
instruction_lines None = []
instruction_lines (Some n) = instructions_line n ∷ []

-- the text of a report, and behind it that line, where instructions are counted
abbrev pub text_with : Report → Option ℕ → List ℕ
text_with r None = text_of r
text_with r (Some n) = text_of r ++ instructions_line n

-- the text of what a run tells
abbrev pub account_text : Account → List ℕ
account_text a = text_with a.report (instructions_of a.machine)

-- its lines behind those of the results
abbrev pub closing_lines : Report → Option ℕ → List (List ℕ)
closing_lines r instructions = last_lines r ++ instruction_lines instructions

-- ---- parts

-- the report of a run that printed these words, ended so, and counted so
abbrev pub told_of : List (ℕ × ℕ) → End → ℕ → Counts → Report
told_of printed how results counts =
    record { printed = printed; how = how; results = results; events = counts.events; activations = counts.activations; cells = counts.cells }

-- what such a run tells that leaves this machine, if one
abbrev pub account_of : List (ℕ × ℕ) → End → ℕ → Counts → Option Hart → Account
account_of printed how results counts machine = record { report = told_of printed how results counts; machine = machine }

-- what a run without a machine tells
abbrev pub plain_account : Report → Account
plain_account r = record { report = r; machine = None }

-- what the run of an image tells
abbrev pub image_account : Image → List ℕ → List Item → Limits → Account
image_account image args order limits =
    record { report = image_told image args order limits; machine = Some ((host_run image args order limits).1).hart }
