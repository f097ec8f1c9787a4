use Rattle.std.proofs.Common.{ℕ, ◌∙◌, sym, ap, refl, take, get_or, []}
use Rattle.std.proofs.lemmas.List.{take_more}
use Rattle.tam_word.specs.Lists.{has}
use Rattle.tam_sets.specs.Sets.{places_where, with_place}
use Rattle.tam_sets.proofs.PlacesWhere.{where-none}
use Rattle.tam_quotient.proofs.Tabling.{places-more}
use Rattle.tam_quotient.proofs.gather.set_of.Goals as goal

pub loop-place-init : goal.loop-place-init
loop-place-init c = c.empty-set.ensures.value ∙ sym (where-none (has []) (λ x l. refl))

pub loop-place-preserved : goal.loop-place-preserved
loop-place-preserved c =
    let ps = c.args.places.now in
    let n = c.loop-place.place-index in
    let place : ℕ = get_or ps n 0 in
    c.insert.ensures.value ∙ (ap (with_place place) c.loop-place.invariant ∙ (places-more (take n ps) place
    ∙ ap (λ xs. places_where (has xs)) (sym (take_more ps n 0 c.loop-place-test.true))))
