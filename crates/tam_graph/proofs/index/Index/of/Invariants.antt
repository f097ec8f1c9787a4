use Rattle.tam_graph.proofs.Indexing.{IsIndexBelow}
use Rattle.tam_graph.proofs.index.Index.of.Given as goal

abbrev pub invariant-loop-x : goal.invariant-loop-x
invariant-loop-x l = IsIndexBelow l.nodes l.x l.last l.before
