use Rattle.tam_graph.proofs.LastNodes.{IsNext, way}
use Rattle.tam_graph.proofs.index.Index.find.Given as goal

abbrev pub invariant-loop-next : goal.invariant-loop-next
invariant-loop-next l = IsNext l.nodes l.name l.next

abbrev pub decreases-loop-next : goal.decreases-loop-next
decreases-loop-next l = way l.next
