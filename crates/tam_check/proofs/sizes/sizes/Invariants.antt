use Rattle.tam_check.specs.Tables.{AreSizes}
use Rattle.tam_check.proofs.sizes.sizes.Given as goal

abbrev pub invariant-loop-x : goal.invariant-loop-x
invariant-loop-x l = AreSizes l.code l.x l.interfaces l.sizes.items
