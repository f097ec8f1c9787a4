use Rattle.std.proofs.Common.{◌≡◌, ◌++◌, drop, filter}
use Rattle.tam_graph.specs.Graphs.{code_of, kind_at, operands_of}
use Rattle.tam_world.specs.Takers.{is_none}
use Rattle.tam_world.proofs.table.starters_among.Given as goal

abbrev pub invariant-loop-node : goal.invariant-loop-node
invariant-loop-node l =
    l.starters.items ++ filter (λ x. is_none (operands_of (code_of l.graph l.code) (kind_at (code_of l.graph l.code) x))) (drop l.node-index l.nodes)
    ≡ filter (λ x. is_none (operands_of (code_of l.graph l.code) (kind_at (code_of l.graph l.code) x))) l.nodes
