use Rattle.std.proofs.Common.{◌≡◌, map}
use Rattle.tam_word.specs.Lists.{below}
use Rattle.tl0_keep.specs.Compiled.{waits_for}
use Rattle.tl0_emit.proofs.block_flow.waits_of.Given as goal

abbrev pub invariant-loop-k : goal.invariant-loop-k
invariant-loop-k l = l.waits.items ≡ map (waits_for l.b l.p) (below l.k)
