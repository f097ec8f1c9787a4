use Rattle.std.proofs.Common.{◌≡◌}
use Rattle.tam_split.proofs.Gathered.{vertices_up_to}
use Rattle.tam_split.proofs.gathering.vertices_in.Given as goal

abbrev pub invariant-loop-node : goal.invariant-loop-node
invariant-loop-node l = l.vertices.items ≡ vertices_up_to l.code l.block l.node
