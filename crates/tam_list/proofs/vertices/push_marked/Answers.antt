use Rattle.std.proofs.Common.{◌++◌, ◌∙◌, ap, get_or, append_assoc}
use Rattle.std.proofs.lemmas.List.{get_or_default}
use Rattle.tam_list.specs.Listings.{place_text}
use Rattle.tam_list.proofs.Appending.{more-taken}
use Rattle.tam_list.proofs.vertices.push_marked.Goals as goal

pub loop-place-preserved : goal.loop-place-preserved
loop-place-preserved c =
    let places = c.args.places.now in
    let here = c.loop-place.place-index in
    let place = get_or places here 0 in
    let text = place_text c.args.block.now place in
    more-taken (λ x. c.args.mark.now ++ place_text c.args.block.now x) c.args.text.now.items places here place c.loop-place.text.items
    c.push_place.new.text.items
    c.loop-place-test.true (get_or_default places here 0 place c.loop-place-test.true) c.loop-place.invariant
    (c.in_ok-push_place.ensures.ok ∙ (ap (λ t. t ++ text) c.in_ok-push.ensures.ok ∙ append_assoc c.loop-place.text.items c.args.mark.now text))
