use Rattle.std.proofs.Common.{◌≡◌, ◌++◌, map}
use Rattle.tam_word.specs.Lists.{below}
use Rattle.tam_split.specs.Blocks.{block_graph}
use Rattle.tl0_keep.specs.Compiled.{class_thread, parts_at}
use Rattle.tl0_emit.specs.CodeParts.{its_code}
use Rattle.tl0_emit.proofs.code_tables.CodeTables.push_classes.Given as goal

abbrev pub invariant-loop-k : goal.invariant-loop-k
invariant-loop-k l =
    l.threads.items ≡ l.initial.threads.items ++ map (class_thread l.self.graph (its_code l.self) l.self.parts l.block (block_graph (its_code l.self) l.block)
    (parts_at l.self.parts l.block)) (below l.k)
