use Rattle.std.proofs.Common.{◌≡◌, ◌+◌, ◌*◌, [], flat_map, length}
use Rattle.tam_word.specs.Lists.{below}
use Rattle.tam_check.specs.FirstFault.{faults_on}
use Rattle.tam_check.specs.Tables.{IsTable}
use Rattle.tam_check.proofs.checker.first_in.Given as goal

abbrev pub invariant-loop-x : goal.invariant-loop-x
invariant-loop-x l =
    (flat_map (faults_on l.graph.graph.now l.n) (below l.x) ≡ []) × IsTable l.code l.x
    (8 * (length l.code.nodes + length l.code.owners)) l.earlier.rows.items l.earlier.seen.items
