use Rattle.std.proofs.Common.{ℕ, ◌≡◌, ◌≢◌, ◌<◌, length, slice_index}
use Rattle.tam_graph.specs.Graphs.{block_at}
use Rattle.tl0_keep.specs.Compiled.{thread_of_inlet}
use Rattle.tl0_keep.proofs.code.InletVertices.{IsInletOf}
use Rattle.tl0_emit.proofs.inlet_threads.set_threads.Given as goal

abbrev pub invariant-loop-place : goal.invariant-loop-place
invariant-loop-place l =
    (length l.threads ≡ length l.initial.threads)
    × ((y x : ℕ) → y < l.place → IsInletOf l.blocks.code l.block y x → slice_index l.threads x ≡ thread_of_inlet l.blocks.code l.blocks.parts x)
    × ((x : ℕ) → block_at l.blocks.code x ≢ l.block → slice_index l.threads x ≡ slice_index l.initial.threads x)
