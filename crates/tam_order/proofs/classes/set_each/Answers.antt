use Rattle.std.proofs.Common.{◌<◌, ◌∙◌, length, get_or, arith}
use Rattle.std.proofs.lemmas.List.{length-set}
use Rattle.tam_order.proofs.Rows.{has-at, set-here, set-elsewhere}
use Rattle.tam_order.proofs.classes.set_each.Goals as goal

pub bounds-numbers-place : goal.bounds-numbers-place
bounds-numbers-place c =
    let there : c.loop-place.place-index < length c.args.places.now = omega arith in
    let i = c.requires.in_range _ (has-at c.args.places.now c.loop-place.place-index there) in
    omega (arith, i, c.loop-place.invariant.0)

pub loop-place-preserved : goal.loop-place-preserved
loop-place-preserved c =
    let there : c.loop-place.place-index < length c.args.places.now = omega arith in
    let i = c.requires.in_range _ (has-at c.args.places.now c.loop-place.place-index there) in
    let inside : get_or c.args.places.now c.loop-place.place-index 0 < length c.loop-place.numbers = omega (arith, i, c.loop-place.invariant.0) in (
      length-set c.loop-place.numbers _ c.args.number ∙ c.loop-place.invariant.0,
      set-here c.loop-place.numbers c.args.places.now c.args.number c.loop-place.place-index there inside c.loop-place.invariant.1,
      λ x h. set-elsewhere c.loop-place.numbers c.args.places.now c.args.number c.loop-place.place-index there inside x h ∙ c.loop-place.invariant.2 x h,
    )
