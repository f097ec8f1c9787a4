-- One code of a graph with a partition of each of its blocks: what its thread code is made of.
-- The rule in words: docs/THREADS.md, "From graph to threads".
use Rattle.std.specs.Prelude.{ℕ, ◌≡◌, ◌<◌, List, length, slice_get}
use Rattle.tam_graph.specs.Graphs.{Code, Graph, code_of}
use Rattle.tam_graph.specs.Accepted.{IsAccepted}
use Rattle.tam_split.specs.Blocks.{block_graph}
use Rattle.tam_split.specs.Partitions.{Parts}
use Rattle.tam_split.specs.PartitionLaws.{IsPartition}
use Rattle.tam_split.specs.GraphPartitions.{Partitions, or_none}
use Rattle.tam_split.specs.KeptParts.{AreClasses}
use Rattle.tl0_keep.specs.Compiled.{parts_at}

-- a code and a partition for each of its blocks
pub record PartedCode : Type 0 where
  pub code : Code
  pub parts : List Parts

-- a graph, the number of a code, and a partition for each of its blocks
pub record CodeParts : Type 0 where
  pub graph : Graph
  pub code : ℕ
  pub parts : List Parts

-- the code
abbrev pub its_code : CodeParts → Code
its_code t = code_of t.graph t.code

-- each block of the code has a partition of its vertices, and there is no other
pub record ArePartsOf (c : Code) (ps : List Parts) : Type 0 where
  pub blocks : length ps ≡ length c.owners
  pub parts : (b : ℕ) → b < length c.owners → IsPartition (block_graph c b) (parts_at ps b)

-- each code of the graph has such partitions, and there are no others
pub record ArePartsOfAll (g : Graph) (all : Partitions) : Type 0 where
  pub codes : length all ≡ length g.codes
  pub each : (n : ℕ) → n < length g.codes → ArePartsOf (code_of g n) (or_none (slice_get all n))

-- each partition is one that the type keeps
abbrev pub AreKept : List Parts → Type 0
AreKept ps = (b : ℕ) → b < length ps → AreClasses (parts_at ps b)

-- the code is one of an accepted graph, each of its blocks has its partition, and each partition is one that the type keeps
pub record IsCodeOf (t : CodeParts) : Type 0 where
  pub accepted : IsAccepted t.graph
  pub there : t.code < length t.graph.codes
  pub parts : ArePartsOf (its_code t) t.parts
  pub classes : AreKept t.parts
