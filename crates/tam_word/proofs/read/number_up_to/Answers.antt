use Rattle.std.proofs.Common.{arith}
use Rattle.tam_word.proofs.NumberLemmas.{passes_bound}
use Rattle.tam_word.proofs.read.number_up_to.Goals as goal

pub returns-then-number-from-clause-beyond : goal.returns-then-number-from-clause-beyond
returns-then-number-from-clause-beyond c =
    passes_bound c.args.base c.loop-rest.number c.args.most _ c.loop-rest.rest.now c.requires.one_digit c.in-len1-up.len_at_least
    c.loop-rest.invariant.so_far (omega (arith, c.digit_of.ensures))
