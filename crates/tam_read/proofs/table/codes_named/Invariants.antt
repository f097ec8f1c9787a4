use Rattle.std.proofs.Common.{◌≡◌, ◌+◌, ◌≤◌, [], length}
use Rattle.tam_read.specs.Tables.{table, codes_from}
use Rattle.tam_read.specs.LineView.{sayings_of}
use Rattle.tam_read.proofs.table.codes_named.Given as goal

abbrev pub invariant-loop-rest : goal.invariant-loop-rest
invariant-loop-rest l = record {
  so_far : codes_from l.number (sayings_of l.rest) (table l.names) ≡ codes_from 0 (sayings_of l.lines) [];
  few : l.number + length l.rest ≤ length l.lines;
}

abbrev pub decreases-loop-rest : goal.decreases-loop-rest
decreases-loop-rest l = length l.rest
