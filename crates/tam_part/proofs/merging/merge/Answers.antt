use Rattle.std.proofs.Common.{◌≡◌, ◌∙◌, sym, subst, ap₂, arith, length}
use Rattle.std.proofs.lemmas.List.{get_or_default}
use Rattle.tam_split.specs.Partitions.{Parts}
use Rattle.tam_split.proofs.Classes.{partition-parts}
use Rattle.tam_quotient.specs.declared.ways.Ways.{Ways}
use Rattle.tam_part.specs.Kept.{AreWays, AreSeparated, AreAdded, no_ways, way_in, both_ways}
use Rattle.tam_part.proofs.Leasts.{first-class, first-least}
use Rattle.tam_part.proofs.Standing.{member-class}
use Rattle.tam_part.proofs.Updating.{ways-merged}
use Rattle.tam_part.proofs.Separating.{separated-merged}
use Rattle.tam_part.proofs.merging.merge.Goals as goal

pub add_to_each-requires-clause-in_range : goal.add_to_each-requires-clause-in_range
add_to_each-requires-clause-in_range c k h =
    let f = (first-class c.args.p.now c.requires.kept (length c.args.b.now.vertices) (partition-parts c.args.b.now c.args.p.now c.requires.whole) k h).1 in
    omega (arith, f, c.requires.ways.count)

pub returns-clause-ways : goal.returns-clause-ways
returns-clause-ways c =
    let b = c.args.b.now in
    let p = c.args.p.now in
    let parts = partition-parts b p c.requires.whole in
    let one = member-class (length b.vertices) p parts c.args.k c.place_of-one.result c.place_of-one.ensures.member in
    let other = member-class (length b.vertices) p parts c.args.l c.place_of-other.result c.place_of-other.ensures.member in
    let here : c.index-ways-one.result ≡ way_in c.args.ways.now c.place_of-one.result = c.index-ways-one.is
    ∙ get_or_default c.args.ways.now c.place_of-one.result
    c.index-ways-one.result no_ways (omega (arith, one.1, c.requires.ways.count)) in
    let there : c.index-ways-other.result ≡ way_in c.args.ways.now c.place_of-other.result = c.index-ways-other.is ∙ get_or_default c.args.ways.now
    c.place_of-other.result c.index-ways-other.result no_ways (omega (arith, other.1, c.requires.ways.count)) in
    let both : c.both_ways-both.result ≡ both_ways (way_in c.args.ways.now c.place_of-one.result) (way_in c.args.ways.now c.place_of-other.result) =
    c.both_ways-both.ensures.value ∙ ap₂ (λ (v w : Ways). both_ways v w) here there in
    subst (λ (qs : Parts). AreWays b qs c.add_to_each.new.ways) (sym c.merge.ensures.value)
    (ways-merged b p c.args.k c.args.l c.place_of-one.result c.place_of-other.result c.args.ways.now c.add_to_each.new.ways c.requires.few parts c.requires.kept
    c.requires.in_order c.requires.in_range one.0 other.0 (
      one.1,
      first-least p c.requires.kept (length b.vertices) parts c.place_of-one.result c.args.k (omega (arith, c.requires.in_order, c.requires.in_range))
          c.place_of-one.ensures.value,
    )
    (other.1, first-least p c.requires.kept (length b.vertices) parts c.place_of-other.result c.args.l c.requires.in_range c.place_of-other.ensures.value)
    c.requires.ways (subst (λ (w : Ways). AreAdded p w c.args.ways.now c.add_to_each.new.ways) both c.add_to_each.ensures.added))

pub returns-clause-separated : goal.returns-clause-separated
returns-clause-separated c =
    let b = c.args.b.now in
    let p = c.args.p.now in
    let parts = partition-parts b p c.requires.whole in
    let one = member-class (length b.vertices) p parts c.args.k c.place_of-one.result c.place_of-one.ensures.member in
    let other = member-class (length b.vertices) p parts c.args.l c.place_of-other.result c.place_of-other.ensures.member in
    subst (λ (qs : Parts). AreSeparated b qs c.join_apart.new.apart) (sym c.merge.ensures.value)
    (separated-merged b c.requires.few p parts c.args.k c.args.l c.requires.in_order c.requires.in_range c.place_of-one.result c.place_of-other.result
    one.0 other.0 one.1 other.1 c.args.apart.now c.requires.separated c.join_apart.new.apart c.join_apart.ensures.count c.join_apart.ensures.value)
