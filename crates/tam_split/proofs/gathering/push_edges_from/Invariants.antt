use Rattle.std.proofs.Common.{◌≡◌, ◌++◌}
use Rattle.tam_split.proofs.Gathered.{edges_up_to}
use Rattle.tam_split.proofs.gathering.push_edges_from.Given as goal

abbrev pub invariant-loop-taking : goal.invariant-loop-taking
invariant-loop-taking l = l.edges.items ≡ l.initial.edges.items ++ edges_up_to l.taken l.place l.node l.taking
