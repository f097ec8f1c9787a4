use Rattle.std.proofs.Common.{◌≡◌, take}
use Rattle.std.specs.Io.KnownBytes.{Appends}
use Rattle.tam_msgs.specs.Runs.{joined}
use Rattle.tam.specs.MadeRuns.{level_lines, levels_ending, made_run}
use Rattle.tam.specs.Machines.{behind_levels}
use Rattle.tam.proofs.made.run_levels.Given as goal

abbrev pub invariant-loop-level : goal.invariant-loop-level
invariant-loop-level g l = record {
  first_is : l.first ≡ levels_ending (made_run l.shape l.n l.graph) (take l.level-index l.levels);
  taken : Appends (g.K.Sink.taken l.fn.out) (g.K.Sink.taken l.out) (joined (level_lines (made_run l.shape l.n l.graph) (take l.level-index l.levels)));
  counted : g.K.Sink.faults l.out ≡ g.K.Sink.faults l.fn.out;
  machine : l.machine ≡ behind_levels (made_run l.shape l.n l.graph) (take l.level-index l.levels) l.fn.machine;
}
