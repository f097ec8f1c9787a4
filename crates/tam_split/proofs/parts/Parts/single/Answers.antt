use Rattle.std.proofs.Common.{◌≡◌, ◌≤◌, ◌+◌, ◌∙◌, sym, ap, arith, [], ◌∷◌, ◌++◌}
use Rattle.tam_split.specs.Partitions.{single}
use Rattle.tam_split.proofs.SingleClasses.{places-more, ends-more, single-flat, single-back}
use Rattle.tam_split.proofs.parts.Parts.single.Goals as goal

pub loop-place-preserved : goal.loop-place-preserved
loop-place-preserved c =
    let place = c.in_ok-push.ensures.items in
    let end = c.in_ok-push-2.ensures.items in record {
      places = place ∙ (ap (λ xs. xs ++ c.loop-place.place ∷ []) c.loop-place.invariant.places ∙ sym (places-more c.loop-place.place));
      ends = end ∙ (ap (λ xs. xs ++ (c.loop-place.place + 1) ∷ []) c.loop-place.invariant.ends ∙ sym (ends-more c.loop-place.place));
    }

pub invariant_of-result : goal.invariant_of-result
invariant_of-result c =
    let few : c.loop-place.place ≤ 512 = omega arith in rw (c.loop-place.invariant.places, c.loop-place.invariant.ends) (single-flat c.loop-place.place few)

pub returns : goal.returns
returns c =
    let all : c.loop-place.place ≡ c.args.n = omega arith in
    record { value = rw (c.loop-place.invariant.places, c.loop-place.invariant.ends) (single-back c.loop-place.place ∙ ap single all) }
