use Rattle.tam_world.proofs.TableLists.{AreTablesBelow}
use Rattle.tam_world.proofs.program.tables_of.Given as goal

abbrev pub invariant-loop-code : goal.invariant-loop-code
invariant-loop-code l = AreTablesBelow l.graph l.tables.items l.code
