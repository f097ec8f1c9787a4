use Rattle.std.proofs.Common.{◌≡◌, ◌==◌, ◌∙◌, sym, ap, ap₂, List, ℕ, [], ◌∷◌, ◌++◌}
use Rattle.tam_sets.specs.Sets.{places_where, with_place}
use Rattle.tam_reach.proofs.Spread.{map-more}
use Rattle.tam_reach.proofs.reach.each_alone.Goals as goal

pub loop-place-preserved : goal.loop-place-preserved
loop-place-preserved c =
    let place = c.loop-place.place in
    let more = c.in_ok-push.ensures.items in
    let alone : c.insert.new.self ≡ places_where (λ x. x == place) = c.insert.ensures.value ∙ ap
    (λ (xs : List ℕ). with_place place xs) c.empty-alone.ensures.value in
    more
    ∙ (ap₂ (λ (xs : List (List ℕ)) (x : List ℕ). xs ++ x ∷ []) c.loop-place.invariant alone ∙ sym (map-more (λ (y : ℕ). places_where (λ x. x == y)) place))
