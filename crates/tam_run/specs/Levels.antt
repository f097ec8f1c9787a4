-- The levels at which a graph is run, and what a run at each of them tells.
use Rattle.std.specs.Prelude.{ℕ, List, Option, Some, None}
use Rattle.tam_graph.specs.Graphs.{Graph}
use Rattle.tam_msgs.specs.declared.item.Item.{Item}
use Rattle.tam_msgs.specs.declared.limits.Limits.{Limits}
use Rattle.tam_msgs.specs.Runs.{Report}
use Rattle.tam_eval.specs.GraphRuns.{graph_told}
use Rattle.tl0_code.specs.ThreadRuns.{thread_told}
use Rattle.tl0_keep.specs.Compiled.{compiled}
use Rattle.rv_inst.specs.Harts.{Hart}
use Rattle.rv_keep.specs.Image.{image_of}
use Rattle.rv_keep.specs.HostRuns.{host_run, image_told}
use Rattle.tam_run.specs.declared.level.Level.{Level}
use Rattle.tam_run.specs.declared.level.Level.TheVariants as level
use Rattle.tam_run.specs.Accounts.{Account}

-- the report of the run of a graph at a level
abbrev pub told_at : Level → Graph → List ℕ → List Item → Limits → Report
told_at level.Graph g args order limits = graph_told g args order limits
told_at level.Tl0 g args order limits = thread_told (compiled g) args order limits
told_at level.Rv32 g args order limits = image_told (image_of (compiled g)) args order limits

-- the machine that it leaves, where the level has one
abbrev pub machine_at : Level → Graph → List ℕ → List Item → Limits → Option Hart
machine_at level.Graph g args order limits = None
machine_at level.Tl0 g args order limits = None
machine_at level.Rv32 g args order limits = Some ((host_run (image_of (compiled g)) args order limits).1).hart

-- what it tells
abbrev pub account_at : Level → Graph → List ℕ → List Item → Limits → Account
account_at level g args order limits = record { report = told_at level g args order limits; machine = machine_at level g args order limits }
