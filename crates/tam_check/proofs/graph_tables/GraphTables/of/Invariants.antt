use Rattle.tam_check.specs.Tables.{AreBorders}
use Rattle.tam_check.proofs.graph_tables.GraphTables.of.Given as goal

abbrev pub invariant-loop-n : goal.invariant-loop-n
invariant-loop-n l = AreBorders l.graph l.n l.borders.items
