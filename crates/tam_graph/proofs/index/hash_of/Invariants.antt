use Rattle.std.proofs.Common.{◌≡◌, ◌<◌, length}
use Rattle.tam_graph.specs.Hashes.{hash_from, hash_of}
use Rattle.tam_graph.proofs.index.hash_of.Given as goal

abbrev pub invariant-loop-rest : goal.invariant-loop-rest
invariant-loop-rest l = (hash_from l.hash l.rest ≡ hash_of l.name) × (l.hash < 256)

abbrev pub decreases-loop-rest : goal.decreases-loop-rest
decreases-loop-rest l = length l.rest
