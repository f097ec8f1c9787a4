use Rattle.std.proofs.Common.{◌≡◌, filter}
use Rattle.tam_word.specs.Lists.{below}
use Rattle.tam_graph.specs.Graphs.{kind_at}
use Rattle.tl0_keep.specs.Compiled.{is_choosing}
use Rattle.tl0_emit.proofs.node_tables.choosing_nodes_of.Given as goal

abbrev pub invariant-loop-node : goal.invariant-loop-node
invariant-loop-node l = l.nodes.items ≡ filter (λ x. is_choosing (kind_at l.code x)) (below l.node)
