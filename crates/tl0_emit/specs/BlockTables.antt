-- The tables of a code's blocks: their graphs, the number of the class of each place, and their first threads.
-- The rule in words: docs/THREADS.md, "From graph to threads".
use Rattle.std.specs.Prelude.{ℕ, suc, ◌+◌, ◌≡◌, ◌<◌, ◌≤◌, List, [], Option, Some, None, slice_get, map, length}
use Rattle.tam_word.specs.Lists.{below}
use Rattle.tam_graph.specs.Graphs.{blocks_of}
use Rattle.tam_split.specs.Blocks.{BlockGraph, block_graph, places}
use Rattle.tam_split.specs.Partitions.{Parts, class_of}
use Rattle.tam_world.specs.Tables.{listed}
use Rattle.tl0_keep.specs.Compiled.{parts_at, classes_before}
use Rattle.tl0_emit.specs.CodeParts.{PartedCode, ArePartsOf, AreKept}
use Rattle.tl0_emit.specs.declared.code_blocks.CodeBlocks.TheInside.{Inside}

-- what stands for the graph of a block that isn't there
abbrev pub or_no_graph : Option BlockGraph → BlockGraph
or_no_graph None = record { vertices = []; edges = [] }
or_no_graph (Some b) = b

-- the graph at a place of a list
abbrev pub graph_in : List BlockGraph → ℕ → BlockGraph
graph_in bs b = or_no_graph (slice_get bs b)

-- the first thread of block b
abbrev pub first_thread : List Parts → ℕ → ℕ
first_thread ps b = 1 + classes_before ps b

-- the code whose tables they are
abbrev pub code_parted : Inside → PartedCode
code_parted i = record { code = i.code.now; parts = i.parts.now }

-- the tables are those of the code's blocks
pub record AreBlocksOf (i : Inside) : Type 0 where
  pub parts : ArePartsOf i.code.now i.parts.now
  pub kept : AreKept i.parts.now
  pub graphs : i.graphs.items ≡ map (block_graph i.code.now) (blocks_of i.code.now)
  pub numbers : (b : ℕ) → b < length i.code.now.owners
      → listed i.numbers.items b ≡ map (class_of (parts_at i.parts.now b)) (places (block_graph i.code.now b))
  pub each_numbered : length i.numbers.items ≡ length i.code.now.owners
  pub starts : i.starts.items ≡ map (first_thread i.parts.now) (below (suc (length i.code.now.owners)))
  pub few : (b : ℕ) → b ≤ length i.code.now.owners → first_thread i.parts.now b ≤ 1025
