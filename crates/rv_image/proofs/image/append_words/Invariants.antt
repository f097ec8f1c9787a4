-- What stands behind the first words is appended to what was there.
use Rattle.std.proofs.Common.{◌≡◌, ◌++◌, length}
use Rattle.rv_inst.specs.Images.{bytes_of_words}
use Rattle.rv_image.proofs.image.append_words.Given as goal

abbrev pub invariant-loop-rest : goal.invariant-loop-rest
invariant-loop-rest l = l.to.items ++ bytes_of_words l.rest ≡ l.fn.to.items ++ bytes_of_words l.fn.words

abbrev pub decreases-loop-rest : goal.decreases-loop-rest
decreases-loop-rest l = length l.rest
