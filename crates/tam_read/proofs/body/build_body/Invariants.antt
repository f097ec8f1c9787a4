use Rattle.std.proofs.Common.{◌≡◌, ◌+◌, ◌≤◌, length, map}
use Rattle.tam_read.specs.Naming.{faults_within}
use Rattle.tam_read.specs.Building.{built, nothing_built}
use Rattle.tam_read.specs.BuildingView.{built_so_far}
use Rattle.tam_read.specs.KnownView.{known}
use Rattle.tam_read.specs.LineView.{sayings_of, numbered}
use Rattle.tam_read.proofs.body.build_body.Given as goal

abbrev pub invariant-loop-rest : goal.invariant-loop-rest
invariant-loop-rest l = record {
  so_far : built (known l.names) (built_so_far l.built) (sayings_of l.rest) ≡ built (known l.names) nothing_built (sayings_of l.lines);
  faults : faults_within (known l.names) (map numbered l.rest) ≡ faults_within (known l.names) (map numbered l.lines);
  nodes : length l.built.nodes.items + length l.rest ≤ length l.lines;
  owners : length l.built.owners.items + length l.rest ≤ length l.lines + 1;
}

abbrev pub decreases-loop-rest : goal.decreases-loop-rest
decreases-loop-rest l = length l.rest
