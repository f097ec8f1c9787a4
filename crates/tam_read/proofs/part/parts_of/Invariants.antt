use Rattle.std.proofs.Common.{◌≡◌, ◌++◌, ◌≤◌, length, map}
use Rattle.tam_read.specs.Parts.{pieces, faults_of_pieces, part_made}
use Rattle.tam_read.specs.PartView.{part}
use Rattle.tam_read.specs.Tables.{table}
use Rattle.tam_read.specs.LineView.{numbered}
use Rattle.tam_read.proofs.part.parts_of.Given as goal

abbrev pub invariant-loop-rest : goal.invariant-loop-rest
invariant-loop-rest l = record {
  so_far : map part l.parts.items ++ map (part_made (table l.codes)) (pieces (map numbered l.rest))
      ≡ map (part_made (table l.codes)) (pieces (map numbered l.lines));
  faults : faults_of_pieces (table l.codes) (pieces (map numbered l.rest)) ≡ faults_of_pieces (table l.codes) (pieces (map numbered l.lines));
  few : length l.rest ≤ length l.lines;
}

abbrev pub decreases-loop-rest : goal.decreases-loop-rest
decreases-loop-rest l = length l.rest
