use Rattle.std.proofs.Common.{ℕ, ◌≡◌, ◌+◌, ◌-◌, vec_len}
use Rattle.tam_print.specs.BlockLists.{listed}
use Rattle.tam_print.proofs.block.add.Given as goal

abbrev pub invariant-loop-alloc : goal.invariant-loop-alloc
invariant-loop-alloc l = (b : ℕ) → listed l.blocks.items b ≡ listed l.initial.blocks.items b

abbrev pub decreases-loop-alloc : goal.decreases-loop-alloc
decreases-loop-alloc l = (l.block + 1) - vec_len l.blocks
