use Rattle.std.proofs.Common.{◌≡◌, ◌≤◌, ◌*◌, sum_by}
use Rattle.tam_word.specs.Lists.{below}
use Rattle.tam_graph.specs.Written.{vertices_at}
use Rattle.tam_list.proofs.counting.vertices_in.Given as goal

abbrev pub invariant-loop-node : goal.invariant-loop-node
invariant-loop-node l = (l.count ≡ sum_by (vertices_at l.code) (below l.node-index)) × (l.count ≤ 2 * l.node-index)
