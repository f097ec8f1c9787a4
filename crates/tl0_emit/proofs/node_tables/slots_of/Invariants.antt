use Rattle.std.proofs.Common.{◌≡◌, map}
use Rattle.tam_word.specs.Lists.{below}
use Rattle.tl0_keep.specs.Compiled.{slot_of}
use Rattle.tl0_emit.proofs.node_tables.slots_of.Given as goal

abbrev pub invariant-loop-node : goal.invariant-loop-node
invariant-loop-node l = (l.slots.items ≡ map (slot_of l.code) (below l.node-index)) × (l.next ≡ slot_of l.code l.node-index)
