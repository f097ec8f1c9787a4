use Rattle.std.proofs.Common.{◌≡◌, length}
use Rattle.tl0_emit.proofs.SwitchCounts.{Counted}
use Rattle.tl0_emit.proofs.code_tables.CodeTables.switches.Given as goal

abbrev pub invariant-loop-node : goal.invariant-loop-node
invariant-loop-node l = record {
  long : length l.counts.items ≡ length l.nodes;
  counted : Counted l.nodes l.counts.items l.node-index;
}
