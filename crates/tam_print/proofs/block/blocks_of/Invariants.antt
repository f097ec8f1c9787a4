use Rattle.tam_print.proofs.ListLemmas.{AreBelow}
use Rattle.tam_print.proofs.block.blocks_of.Given as goal

abbrev pub invariant-loop-x : goal.invariant-loop-x
invariant-loop-x l = AreBelow l.code l.blocks.items l.x
