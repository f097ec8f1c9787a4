use Rattle.std.proofs.Common.{◌≡◌, ◌++◌, drop, flat_map}
use Rattle.tam_split.specs.Blocks.{block_graph, vertex_at}
use Rattle.tl0_keep.specs.Compiled.{vertex_instrs}
use Rattle.tl0_emit.specs.CodeParts.{its_code}
use Rattle.tl0_emit.proofs.code_tables.CodeTables.push_vertices.Given as goal

abbrev pub invariant-loop-place : goal.invariant-loop-place
invariant-loop-place l =
    l.instrs.items ++ flat_map (λ x. vertex_instrs l.self.graph (its_code l.self) l.self.parts (vertex_at (block_graph (its_code l.self) l.block) x))
    (drop l.place-index l.order)
    ≡ l.initial.instrs.items ++ flat_map (λ x. vertex_instrs l.self.graph (its_code l.self) l.self.parts (vertex_at (block_graph (its_code l.self) l.block) x))
    l.order
