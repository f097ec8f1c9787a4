use Rattle.tam_graph.specs.Graphs.{code_of}
use Rattle.tam_world.specs.Tables.{listed}
use Rattle.tam_world.proofs.TableLists.{AreListsBelow, AreInletsBelow}
use Rattle.tam_world.proofs.Needed.{AreNeedsBelow}
use Rattle.tam_world.proofs.table.Table.of.Given as goal

abbrev pub invariant-loop-x : goal.invariant-loop-x
invariant-loop-x l = record {
  lists : AreListsBelow (code_of l.graph l.code) (listed l.takers.items) (listed l.firers.items) (listed l.inlets.items) l.x;
  block_inlets : AreInletsBelow (code_of l.graph l.code) (listed l.block_inlets.items) l.x;
  needs : AreNeedsBelow (code_of l.graph l.code) l.needs.items l.x;
}
