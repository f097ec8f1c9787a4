use Rattle.std.proofs.Common.{[], ◌∷◌, ◌++◌, ◌∙◌, sym, ap}
use Rattle.tam_quotient.proofs.Tabling.{below-more}
use Rattle.tam_quotient.proofs.gather.numbers.Goals as goal

pub loop-k-preserved : goal.loop-k-preserved
loop-k-preserved c = c.in_ok-push.ensures.items ∙ (ap (λ xs. xs ++ c.loop-k.k ∷ []) c.loop-k.invariant ∙ sym (below-more c.loop-k.k))
