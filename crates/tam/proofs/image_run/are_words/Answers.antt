use Rattle.std.proofs.Common.{arith}
use Rattle.tam.proofs.image_run.are_words.Goals as goal

pub returns : goal.returns
returns c = record { below = λ k. omega (arith, c.type_inv.words k) }
