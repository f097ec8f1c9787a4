use Rattle.std.proofs.Common.{◌≡◌, ◌<◌, ◌∙◌, ◌+◌, ◌-◌, map, length, get_or, ap, arith}
use Rattle.tam_word.specs.Lists.{below}
use Rattle.tam_order.proofs.Rows.{has-at}
use Rattle.tl0_emit.proofs.NodeSteps.{map-long, place_from, place_from-next}
use Rattle.tl0_emit.proofs.node_tables.numbered.Goals as goal

pub index_mut-requires : goal.index_mut-requires
index_mut-requires c =
    let there : c.loop-place.place - 1 < length c.args.listed.now = omega (arith, c.loop-place.auto.place, c.loop-place-test.true) in
    let inside = c.requires.in_range (get_or c.args.listed.now (c.loop-place.place - 1) 0) (has-at c.args.listed.now (c.loop-place.place - 1) there) in
    let long = ap length c.loop-place.invariant ∙ map-long (place_from c.args.listed.now c.loop-place.place) c.args.count in
    omega (arith, inside, long, c.loop-place.places.ok.0)

pub loop-place-preserved : goal.loop-place-preserved
loop-place-preserved c =
    let there : c.loop-place.place - 1 < length c.args.listed.now = omega (arith, c.loop-place.auto.place, c.loop-place-test.true) in
    let inside = c.requires.in_range (get_or c.args.listed.now (c.loop-place.place - 1) 0) (has-at c.args.listed.now (c.loop-place.place - 1) there) in
    let next : c.loop-place.place ≡ c.loop-place.place - 1 + 1 = omega (arith, c.loop-place-test.true) in
    place_from-next c.args.listed.now (c.loop-place.place - 1) c.args.count there inside c.loop-place.places.items
    (c.loop-place.invariant ∙ ap (λ k. map (place_from c.args.listed.now k) (below c.args.count)) next)
