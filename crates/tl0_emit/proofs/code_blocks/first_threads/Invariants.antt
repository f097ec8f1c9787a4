use Rattle.std.proofs.Common.{ℕ, ◌≡◌, ◌<◌, ◌≤◌, ◌+◌, map, take, length}
use Rattle.std.specs.List.{sum_by}
use Rattle.tam_word.specs.Lists.{below}
use Rattle.tam_split.specs.KeptParts.{AreClasses}
use Rattle.tl0_keep.specs.Compiled.{parts_at}
use Rattle.tl0_emit.specs.BlockTables.{first_thread}
use Rattle.tl0_emit.proofs.code_blocks.first_threads.Given as goal

abbrev pub invariant-loop-block : goal.invariant-loop-block
invariant-loop-block l =
    (l.starts.items ≡ map (first_thread l.parts) (below l.block))
    × (l.next ≡ first_thread l.parts l.block)
    × (l.next ≤ 1 + sum_by (λ b. length b.vertices) (take l.block l.graphs))
    × ((b : ℕ) → b ≤ l.block → first_thread l.parts b ≤ 1025)
    × ((b : ℕ) → b < l.block → AreClasses (parts_at l.parts b))
