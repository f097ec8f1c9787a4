use Rattle.std.proofs.Common.{◌≡◌, ◌∷◌, ◌++◌, flat_map}
use Rattle.tam_word.specs.Lists.{below}
use Rattle.tam_graph.specs.Graphs.{blocks_of, kind_at}
use Rattle.tl0_keep.specs.Compiled.{once, block_entry, block_threads, connectors_at}
use Rattle.tl0_emit.specs.CodeParts.{its_code}
use Rattle.tl0_emit.proofs.code_tables.CodeTables.threads.Given as goal

abbrev pub invariant-loop-node : goal.invariant-loop-node
invariant-loop-node l =
    l.threads.items ≡ once (block_entry (its_code l.self) l.self.parts 0) ∷ flat_map (block_threads l.self.graph (its_code l.self) l.self.parts)
    (blocks_of (its_code l.self))
    ++ flat_map (λ x. connectors_at (its_code l.self) l.self.parts x (kind_at (its_code l.self) x)) (below l.node)
