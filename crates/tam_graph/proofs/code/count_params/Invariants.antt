use Rattle.std.proofs.Common.{◌≡◌, take}
use Rattle.tam_graph.specs.Graphs.{is_any_param}
use Rattle.tam_graph.specs.NodeLists.{number_where}
use Rattle.tam_graph.proofs.code.count_params.Given as goal

abbrev pub invariant-loop-node : goal.invariant-loop-node
invariant-loop-node l = l.count ≡ number_where is_any_param (take l.node-index l.nodes)
