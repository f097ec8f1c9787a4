-- The words of the rest go behind what was pushed.
use Rattle.std.proofs.Common.{◌≡◌, ◌++◌, length}
use Rattle.rv_gen.specs.Parts.{words_of}
use Rattle.rv_gen.proofs.insts.push_insts.Given as goal

abbrev pub invariant-loop-rest : goal.invariant-loop-rest
invariant-loop-rest l = l.words.items ++ words_of l.rest ≡ l.fn.words.items ++ words_of l.fn.insts

abbrev pub decreases-loop-rest : goal.decreases-loop-rest
decreases-loop-rest l = length l.rest
