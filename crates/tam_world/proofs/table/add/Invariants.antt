use Rattle.std.proofs.Common.{ℕ, ◌≡◌, ◌+◌, ◌-◌, vec_len}
use Rattle.tam_world.specs.Tables.{listed}
use Rattle.tam_world.proofs.table.add.Given as goal

abbrev pub invariant-loop-alloc : goal.invariant-loop-alloc
invariant-loop-alloc l = (z : ℕ) → listed l.lists.items z ≡ listed l.initial.lists.items z

abbrev pub decreases-loop-alloc : goal.decreases-loop-alloc
decreases-loop-alloc l = (l.place + 1) - vec_len l.lists
