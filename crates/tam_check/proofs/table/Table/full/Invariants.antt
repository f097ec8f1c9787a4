use Rattle.tam_check.specs.Tables.{IsTable}
use Rattle.tam_check.proofs.table.Table.full.Given as goal

abbrev pub invariant-loop-x : goal.invariant-loop-x
invariant-loop-x l = IsTable l.code l.x l.interfaces l.table.rows.items l.table.seen.items
