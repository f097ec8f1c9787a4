use Rattle.std.proofs.Common.{[], ◌∷◌, ◌++◌, ◌∙◌, sym, ap₂}
use Rattle.tam_quotient.specs.declared.ways.Ways.{Ways}
use Rattle.tam_quotient.specs.Joins.{ways_to}
use Rattle.tam_quotient.proofs.Tabling.{map-more}
use Rattle.tam_quotient.proofs.gather.each_way.Goals as goal

pub loop-k-preserved : goal.loop-k-preserved
loop-k-preserved c = c.in_ok-push.ensures.items ∙ (ap₂ (λ xs (w : Ways). xs ++ w ∷ []) c.loop-k.invariant c.ways_to.ensures.value
    ∙ sym (map-more (ways_to c.args.inlets.now c.args.outlets.now c.args.classes.now c.args.leads.now c.args.depends.now) c.loop-k.k))
