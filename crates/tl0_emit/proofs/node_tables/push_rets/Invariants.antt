use Rattle.std.proofs.Common.{◌≡◌, ◌++◌}
use Rattle.tam_graph.specs.Graphs.{code_of}
use Rattle.tl0_emit.specs.Tables.{rets_of}
use Rattle.tl0_emit.proofs.node_tables.push_rets.Given as goal

abbrev pub invariant-loop-place : goal.invariant-loop-place
invariant-loop-place l = l.nodes.items ≡ l.initial.nodes.items ++ rets_of (code_of l.program l.code) l.call l.place
