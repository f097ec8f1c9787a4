use Rattle.std.proofs.Common.{ℕ, ◌≡◌, ◌<◌, map, length, slice_get}
use Rattle.tam_word.specs.Lists.{below}
use Rattle.tam_graph.specs.Graphs.{code_of}
use Rattle.tam_split.specs.GraphPartitions.{or_none}
use Rattle.tam_split.specs.KeptParts.{AreClasses}
use Rattle.tl0_keep.specs.Compiled.{compiled_code, parts_at}
use Rattle.tl0_emit.specs.Emitting.{partitions_of}
use Rattle.tl0_emit.proofs.emission.emit.Given as goal

abbrev pub invariant-loop-code : goal.invariant-loop-code
invariant-loop-code l = record {
  made : l.codes.items ≡ map (λ n. compiled_code l.g (code_of l.g n, or_none (slice_get (partitions_of l.parts) n))) (below l.code);
  classes : (n : ℕ) → n < l.code → (b : ℕ) → b < length (or_none (slice_get (partitions_of l.parts) n))
      → AreClasses (parts_at (or_none (slice_get (partitions_of l.parts) n)) b);
}
