use Rattle.std.proofs.Common.{◌≡◌, map, length}
use Rattle.tam_word.specs.Lists.{below}
use Rattle.tl0_keep.specs.Compiled.{parts_at}
use Rattle.tl0_emit.proofs.code_tables.CodeTables.class_counts.Given as goal

abbrev pub invariant-loop-block : goal.invariant-loop-block
invariant-loop-block l = l.counts.items ≡ map (λ b. length (parts_at l.self.parts b)) (below l.block)
