use Rattle.std.proofs.Common.{ℕ, ◌≡◌, ◌<◌, map, length}
use Rattle.tam_split.specs.Blocks.{places}
use Rattle.tam_split.specs.Partitions.{class_of}
use Rattle.tam_world.specs.Tables.{listed}
use Rattle.tl0_keep.specs.Compiled.{parts_at}
use Rattle.tl0_emit.specs.BlockTables.{graph_in}
use Rattle.tl0_emit.proofs.code_blocks.class_numbers_of.Given as goal

abbrev pub invariant-loop-block : goal.invariant-loop-block
invariant-loop-block l =
    (length l.numbers.items ≡ l.block)
    × ((b : ℕ) → b < l.block → listed l.numbers.items b ≡ map (class_of (parts_at l.parts b)) (places (graph_in l.graphs b)))
