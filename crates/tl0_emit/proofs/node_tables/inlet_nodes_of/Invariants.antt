use Rattle.std.proofs.Common.{◌≡◌, ◌++◌, flat_map}
use Rattle.tam_word.specs.Lists.{below}
use Rattle.tam_graph.specs.Graphs.{code_of, kind_at, node_where, is_param, params_of}
use Rattle.tl0_keep.specs.Compiled.{inlets_at}
use Rattle.tl0_emit.proofs.node_tables.inlet_nodes_of.Given as goal

abbrev pub invariant-loop-place : goal.invariant-loop-place
invariant-loop-place l = l.nodes.items ≡ flat_map (λ k. node_where (code_of l.program l.code) (is_param k)) (below l.place)

abbrev pub invariant-loop-node : goal.invariant-loop-node
invariant-loop-node l =
    l.nodes.items ≡ flat_map (λ k. node_where (code_of l.program l.code) (is_param k)) (below (params_of (code_of l.program l.code)))
    ++ flat_map (λ x. inlets_at l.program (code_of l.program l.code) x (kind_at (code_of l.program l.code) x)) (below l.node)
