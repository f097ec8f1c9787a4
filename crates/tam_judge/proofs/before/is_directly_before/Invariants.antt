use Rattle.std.proofs.Common.{◌≡◌, drop}
use Rattle.tam_split.specs.Partitions.{directly_before}
use Rattle.tam_judge.proofs.before.is_directly_before.Given as goal

abbrev pub invariant-loop-edge : goal.invariant-loop-edge
invariant-loop-edge l = directly_before (drop l.edge-index l.edges) l.parts l.first l.second ≡ directly_before l.edges l.parts l.first l.second
