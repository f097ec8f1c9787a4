use Rattle.std.proofs.Common.{arith}
use Rattle.tam_sets.specs.BitsBack.{words-back}
use Rattle.tam_sets.proofs.set.SetPartialEq.eq.Goals as goal

pub returns : goal.returns
returns c = grind (arith, words-back)
