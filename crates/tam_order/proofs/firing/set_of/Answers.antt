use Rattle.std.proofs.Common.{◌<◌, ◌∙◌, ◌-◌, sym, ap, refl, false, length, arith}
use Rattle.std.proofs.lemmas.List.{drop_all}
use Rattle.tam_word.specs.Lists.{has}
use Rattle.tam_sets.specs.Sets.{places_where}
use Rattle.tam_sets.proofs.PlacesWhere.{where-none}
use Rattle.tam_order.proofs.Rows.{has-at}
use Rattle.tam_order.proofs.FiringSteps.{set-grows}
use Rattle.tam_order.proofs.firing.set_of.Goals as goal

pub loop-index-init : goal.loop-index-init
loop-index-init c =
    let xs = c.args.places.now in
    c.empty-set.ensures.value ∙ sym (ap (λ ys. places_where (has ys)) (drop_all (length xs) xs (omega arith)) ∙ where-none (λ y. false) (λ y l. refl))

pub insert-requires : goal.insert-requires
insert-requires c =
    let there : c.loop-index.index - 1 < length c.args.places.now = omega arith in
    record { in_range = c.requires.few _ (has-at c.args.places.now (c.loop-index.index - 1) there) }

pub loop-index-preserved : goal.loop-index-preserved
loop-index-preserved c =
    let xs = c.args.places.now in
    let k = c.loop-index.index - 1 in
    let there : k < length xs = omega arith in
    set-grows xs k c.loop-index.index c.loop-index.set c.insert.new.self there (omega arith) c.loop-index.invariant c.insert.ensures.value
