use Rattle.std.proofs.Common.{◌≡◌, ◌++◌, map, flat_map}
use Rattle.tam_word.specs.Lists.{below}
use Rattle.tl0_keep.specs.Compiled.{block_threads, block_entry}
use Rattle.tl0_emit.specs.CodeParts.{its_code}
use Rattle.tl0_emit.specs.Branches.{lists_of}
use Rattle.tl0_emit.proofs.code_tables.CodeTables.push_blocks.Given as goal

abbrev pub invariant-loop-block : goal.invariant-loop-block
invariant-loop-block l = record {
  threads : l.threads.items ≡ l.initial.threads.items ++ flat_map (block_threads l.self.graph (its_code l.self) l.self.parts) (below l.block);
  entries : lists_of l.entries.items ≡ map (block_entry (its_code l.self) l.self.parts) (below l.block);
}
