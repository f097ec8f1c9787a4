-- The text of the thread code of an accepted graph isn't too long to be read, whatever its partitions.
-- The rules in words: docs/THREADS.md, "Thread code as text".
use Rattle.std.specs.Prelude.{ℕ, ◌≡◌, ◌<◌, ◌≤◌, IsTrue, length, slice_get}
use Rattle.tam_word.specs.Lists.{all_of}
use Rattle.tam_graph.specs.Graphs.{Graph, code_of}
use Rattle.tam_graph.specs.Accepted.{IsAccepted}
use Rattle.tam_split.specs.Blocks.{block_graph}
use Rattle.tam_split.specs.PartitionLaws.{IsPartition}
use Rattle.tam_split.specs.KeptParts.{is_rising}
use Rattle.tam_split.specs.GraphPartitions.{Partitions, or_none, parts_of}
use Rattle.tl0_code.specs.CodeTexts.{program_text}
use Rattle.tl0_keep.specs.Compiled.{compiled, compiled_with}

-- each block of each code has a partition, and no other has one; the places of a class rise; and a block has no more classes than vertices
pub record ArePartitionsOf (g : Graph) (all : Partitions) : Type 0 where
  pub codes : length all ≡ length g.codes
  pub blocks : (n : ℕ) → n < length g.codes → length (or_none (slice_get all n)) ≡ length (code_of g n).owners
  pub parts : (n b : ℕ) → n < length g.codes → b < length (code_of g n).owners → IsPartition (block_graph (code_of g n) b) (parts_of all n b)
  pub rising : (n b : ℕ) → IsTrue (all_of is_rising (parts_of all n b))
  pub few : (n b : ℕ) → n < length g.codes → b < length (code_of g n).owners → length (parts_of all n b) ≤ length (block_graph (code_of g n) b).vertices

-- over any such partitions the text of the thread code of an accepted graph has fewer bytes than may be read
abbrev pub TextsAreShort : Type 0
TextsAreShort = (g : Graph) (all : Partitions) → IsAccepted g → ArePartitionsOf g all → length (program_text (compiled_with g all)) < 67108864

-- so it has over the partitions by least pairs
abbrev pub TextsByPairsAreShort : Type 0
TextsByPairsAreShort = (g : Graph) → IsAccepted g → length (program_text (compiled g)) < 67108864
