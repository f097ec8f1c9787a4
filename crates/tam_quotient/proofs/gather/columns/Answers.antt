use Rattle.std.proofs.Common.{[], ◌∷◌, ◌++◌, ◌∙◌, sym, ap₂, List, ℕ}
use Rattle.tam_quotient.specs.Tables.{column}
use Rattle.tam_quotient.proofs.Tabling.{map-more}
use Rattle.tam_quotient.proofs.gather.columns.Goals as goal

pub loop-k-preserved : goal.loop-k-preserved
loop-k-preserved c = c.in_ok-push.ensures.items
    ∙ (ap₂ (λ xs (s : List ℕ). xs ++ s ∷ []) c.loop-k.invariant c.behind.ensures.value ∙ sym (map-more (column c.args.leads.now) c.loop-k.k))
