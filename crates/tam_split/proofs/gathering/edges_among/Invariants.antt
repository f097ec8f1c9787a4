use Rattle.std.proofs.Common.{◌≡◌}
use Rattle.tam_split.proofs.Gathered.{edges_of_first}
use Rattle.tam_split.proofs.gathering.edges_among.Given as goal

abbrev pub invariant-loop-place : goal.invariant-loop-place
invariant-loop-place l = l.edges.items ≡ edges_of_first l.code l.vertices l.place
