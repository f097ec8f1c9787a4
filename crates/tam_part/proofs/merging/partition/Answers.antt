use Rattle.std.proofs.Common.{◌≡◌, ◌∙◌, ap, sym, subst, length, map, arith, suc, List, ℕ, Option, None, IsNone, rules}
use Rattle.std.specs.Vec.{with_items}
use Rattle.std.proofs.lemmas.List.{with_items_is}
use Rattle.tam_word.specs.Lists.{below}
use Rattle.tam_split.specs.Partitions.{Parts, single, merged, may_merge}
use Rattle.tam_split.proofs.Classes.{partition-parts, length-merged}
use Rattle.tam_split.proofs.Partitioning.{length-single}
use Rattle.tam_quotient.specs.declared.ways.Ways.{Ways}
use Rattle.tam_part.specs.Kept.{AreWays, AreSeparated, AreDone}
use Rattle.tam_part.proofs.LeastPairs.{pair-none}
use Rattle.tam_part.proofs.Merges.{begun, least-pair, fewer, merged-on, ended}
use Rattle.tam_part.proofs.Shut.{done-merged}
use Rattle.tam_part.proofs.Standing.{ways-begun}
use Rattle.tam_part.proofs.Separating.{no_places, none-separated}
use Rattle.tam_part.proofs.merging.partition.Goals as goal

pub loop-k-init : goal.loop-k-init
loop-k-init c =
    let alone : c.in_ok-parts.parts ≡ single (length c.args.b.now.vertices) =
    c.in_ok-parts.ensures.value ∙ ap (λ vs. single (length vs)) c.vertices.ensures.value in
    let many : length c.in_ok-parts.parts ≡ length c.args.b.now.vertices = ap length alone ∙ length-single (length c.args.b.now.vertices) in
    record {
      between = begun c.args.b.now c.vertices.ensures.block c.in_ok-parts.parts alone;
      ways = ways-begun c.args.b.now c.vertices.ensures.block c.in_ok-parts.parts c.in_ok-ways.ways.items alone c.in_ok-ways.ensures.value;
      separated = none-separated c.args.b.now c.in_ok-parts.parts c.in_ok-apart.apart.items
          (c.in_ok-apart.ensures.value ∙ ap (λ vs. map no_places (below (length vs))) c.vertices.ensures.value);
      done = λ a d low order within other. absurd (omega (arith, low));
      few = omega (arith, many, c.vertices.ensures.few);
      low = omega arith;
    }

pub partner-requires-clause-done : goal.partner-requires-clause-done
partner-requires-clause-done c = c.loop-k.invariant.done

pub merge-requires-clause-in_order : goal.merge-requires-clause-in_order
merge-requires-clause-in_order c = (least-pair c.args.b.now c.loop-k.parts c.in-Some.first c.in-Some.second c.in-Some.ensures.least).0

pub merge-requires-clause-in_range : goal.merge-requires-clause-in_range
merge-requires-clause-in_range c = (least-pair c.args.b.now c.loop-k.parts c.in-Some.first c.in-Some.second c.in-Some.ensures.least).1

pub loop-k-smaller-in-Some : goal.loop-k-smaller-in-Some
loop-k-smaller-in-Some c =
    let f = fewer c.args.b.now c.loop-k.parts c.merge.new.p c.in-Some.first c.in-Some.second c.in-Some.ensures.least c.merge.ensures.value in
    omega (arith, f, c.loop-k.invariant.few, c.loop-k.invariant.low)

pub loop-k-smaller : goal.loop-k-smaller
loop-k-smaller c = omega (arith, c.loop-k-test.true, c.classes.ensures.value, c.loop-k.invariant.few)

pub loop-k-preserved-in-Some : goal.loop-k-preserved-in-Some
loop-k-preserved-in-Some c =
    let pair = c.in-Some.ensures.least in
    let r = least-pair c.args.b.now c.loop-k.parts c.in-Some.first c.in-Some.second pair in
    let apart = with_items c.loop-k.apart c.partner.new.apart in
    let ways_kept : length c.merge.new.ways ≡ c.loop-k.ways.len =
    c.merge.ensures.ways.count ∙ (sym c.loop-k.invariant.ways.count ∙ sym c.loop-k.ways.ok.0) in
    let apart_kept : length c.merge.new.apart ≡ c.loop-k.apart.len =
    c.merge.ensures.separated.count ∙ (sym c.loop-k.invariant.separated.count ∙ sym c.loop-k.apart.ok.0) in
    let one : suc (length (merged c.loop-k.parts c.in-Some.first c.in-Some.second)) ≡ length c.loop-k.parts =
    length-merged c.loop-k.parts c.in-Some.first c.in-Some.second r.1 in
    let long : length c.merge.new.p ≡ length (merged c.loop-k.parts c.in-Some.first c.in-Some.second) = ap length c.merge.ensures.value in
    record {
      between = merged-on c.args.b.now c.loop-k.parts c.merge.new.p c.in-Some.first c.in-Some.second c.loop-k.invariant.between pair c.merge.ensures.value;
      ways = subst (λ (ws : List Ways). AreWays c.args.b.now c.merge.new.p ws) (sym (with_items_is c.loop-k.ways c.merge.new.ways ways_kept))
          c.merge.ensures.ways;
      separated = subst (λ (ss : List (List ℕ)). AreSeparated c.args.b.now c.merge.new.p ss) (sym (with_items_is apart c.merge.new.apart apart_kept))
          c.merge.ensures.separated;
      done = subst (λ (qs : Parts). AreDone c.args.b.now qs c.in-Some.first) (sym c.merge.ensures.value)
          (done-merged c.args.b.now (length c.args.b.now.vertices) c.loop-k.parts c.in-Some.first c.in-Some.second
          (partition-parts c.args.b.now c.loop-k.parts c.loop-k.invariant.between.whole) c.loop-k.invariant.between.valid r.0 r.1 r.2 c.in-Some.ensures.before);
      few = omega (arith, one, long, c.loop-k.invariant.few);
      low = omega (arith, one, long, r.0, r.1);
    }

-- what is none
none-is : (o : Option (ℕ × ℕ)) → o ≡ None → IsNone o
none-is o e = rw e (search rules)

pub loop-k-preserved : goal.loop-k-preserved
loop-k-preserved c =
    let apart_kept : length c.partner.new.apart ≡ c.loop-k.apart.len =
    c.partner.ensures.separated.count ∙ (sym c.loop-k.invariant.separated.count ∙ sym c.loop-k.apart.ok.0) in
    record {
      between = c.loop-k.invariant.between;
      ways = c.loop-k.invariant.ways;
      separated = subst (λ (ss : List (List ℕ)). AreSeparated c.args.b.now c.loop-k.parts ss)
          (sym (with_items_is c.loop-k.apart c.partner.new.apart apart_kept))
          c.partner.ensures.separated;
      done = c.partner.ensures.done (none-is c.partner.result c.in_default.is);
      few = c.loop-k.invariant.few;
      low = omega (arith, c.loop-k-test.true, c.classes.ensures.value);
    }

pub returns-clause-value : goal.returns-clause-value
returns-clause-value c =
    ended c.args.b.now c.loop-k.parts c.loop-k.invariant.between
    (sym (pair-none (may_merge c.args.b.now c.loop-k.parts) (length c.loop-k.parts) (λ a d order within. c.loop-k.invariant.done a d
    (omega (arith, order, within, c.loop-k-test.false, c.classes.ensures.value)) order within
    (λ e. omega (arith, e, within, c.loop-k-test.false, c.classes.ensures.value)))))

pub returns-clause-stuck : goal.returns-clause-stuck
returns-clause-stuck c a d order within = c.loop-k.invariant.done a d
    (omega (arith, order, within, c.loop-k-test.false, c.classes.ensures.value)) order within
    (λ e. omega (arith, e, within, c.loop-k-test.false, c.classes.ensures.value))
