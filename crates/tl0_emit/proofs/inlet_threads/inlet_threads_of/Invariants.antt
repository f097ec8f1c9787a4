use Rattle.std.proofs.Common.{ℕ, ◌≡◌, ◌<◌, true, length, slice_index}
use Rattle.tam_graph.specs.Graphs.{kind_at, block_at, is_inlet}
use Rattle.tl0_keep.specs.Compiled.{thread_of_inlet}
use Rattle.tl0_emit.proofs.inlet_threads.inlet_threads_of.Given as goal

abbrev pub invariant-loop : goal.invariant-loop
invariant-loop l = length l.threads.items ≡ l.counter

abbrev pub invariant-loop-block : goal.invariant-loop-block
invariant-loop-block l =
    (length l.threads.items ≡ length l.blocks.code.nodes)
    × ((x : ℕ) → x < length l.blocks.code.nodes → is_inlet (kind_at l.blocks.code x) ≡ true → block_at l.blocks.code x < l.block
    → slice_index l.threads.items x ≡ thread_of_inlet l.blocks.code l.blocks.parts x)
