use Rattle.std.proofs.Common.{◌≡◌, ◌<◌, ◌+◌, ◌∙◌, refl, sym, ap, subst, arith, length, set}
use Rattle.std.proofs.lemmas.List.{get_or_default}
use Rattle.tam_part.specs.Kept.{first_in, no_ways, way_in, ways_after}
use Rattle.tam_part.proofs.Leasts.{IsAdding, adding-step}
use Rattle.tam_part.proofs.kept.add_to_each.Goals as goal

pub loop-k-init : goal.loop-k-init
loop-k-init c = record { count = refl; done = λ j h. absurd (omega (arith, h)); left = λ j h m. refl }

pub bounds-ways-place : goal.bounds-ways-place
bounds-ways-place c =
    let f = c.requires.in_range c.loop-k.k (omega (arith, c.loop-k-test.true, c.classes-k-end.ensures.value)) in
    omega (arith, f, c.place_of-place.ensures.value, c.loop-k.invariant.count)

pub loop-k-preserved : goal.loop-k-preserved
loop-k-preserved c =
    let p = c.args.p.now in
    let place = c.place_of-place.result in
    let there : c.loop-k.k < length p = omega (arith, c.loop-k-test.true, c.classes-k-end.ensures.value) in
    let low = c.requires.in_range c.loop-k.k there in
    let own : c.add.new.way ≡ ways_after c.args.both.now (first_in p c.loop-k.k) (way_in c.loop-k.ways (first_in p c.loop-k.k)) =
    c.add.ensures.value
    ∙ (ap (ways_after c.args.both.now place) (get_or_default c.loop-k.ways place c.index-ways-place.result no_ways
    (omega (arith, low, c.place_of-place.ensures.value, c.loop-k.invariant.count)))
    ∙ ap (λ x. ways_after c.args.both.now x (way_in c.loop-k.ways x)) c.place_of-place.ensures.value) in
    subst (λ x. IsAdding p c.args.both.now c.args.ways.now (set c.loop-k.ways x c.add.new.way) (c.loop-k.k + 1)) (sym c.place_of-place.ensures.value)
    (adding-step p c.requires.kept c.args.both.now c.args.ways.now c.loop-k.ways c.loop-k.k c.add.new.way there low own c.loop-k.invariant)

pub returns : goal.returns
returns c = record {
  added = record {
    count = c.loop-k.invariant.count;
    each = λ k h. c.loop-k.invariant.done k (omega (arith, h, c.loop-k-test.false, c.classes-k-end.ensures.value));
  };
}
