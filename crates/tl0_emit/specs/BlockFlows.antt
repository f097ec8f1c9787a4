-- How the classes of a block and their vertices follow one another, as tables; and the forks of classes by their sets.
-- The rule in words: docs/THREADS.md, "From graph to threads".
use Rattle.std.specs.Prelude.{ℕ, ◌+◌, ◌≡◌, ◌==◌, List, map, filter, length, slice_index}
use Rattle.tam_word.specs.Lists.{below}
use Rattle.tam_split.specs.Blocks.{BlockGraph, places}
use Rattle.tam_split.specs.Partitions.{Parts}
use Rattle.tam_order.specs.ClassOrders.{behind_of, preceding_of}
use Rattle.tl0_code.specs.declared.instr.Instr.{Instr}
use Rattle.tl0_code.specs.declared.instr.Instr.TheVariants.{Fork}
use Rattle.tl0_keep.specs.Compiled.{waits_for}
use Rattle.tl0_emit.specs.declared.block_flow.BlockFlow.{BlockFlow}

-- the tables are those of a block with its partition
pub record IsFlowOf (b : BlockGraph) (ps : Parts) (f : BlockFlow) : Type 0 where
  pub behind : f.behind.items ≡ map (behind_of b.edges ps) (below (length ps))
  pub waits : f.waits.items ≡ map (waits_for b ps) (below (length ps))
  pub preceding : f.preceding.items ≡ map (preceding_of b.edges) (places b)

-- the forks of the classes of these numbers, where the first class of the block has this thread
abbrev pub forks_from : ℕ → List ℕ → List Instr
forks_from first ks = map (λ k. Fork (first + k)) ks

-- the numbers of the classes that wait for nothing
abbrev pub waiting_for_none : List ℕ → List ℕ
waiting_for_none waits = filter (λ k. slice_index waits k == 0) (below (length waits))
