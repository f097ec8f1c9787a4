use Rattle.std.proofs.Common.{◌≡◌, ◌<◌, ◌+◌, ◌∙◌, ℕ, refl, sym, subst, subst₂, ap₂, arith, length, Bool, true, false, ◌==◌}
use Rattle.tam_word.specs.Lists.{has}
use Rattle.tam_word.proofs.Tests.{number-eq, number-differs}
use Rattle.tam_split.specs.Blocks.{BlockGraph}
use Rattle.tam_split.specs.Partitions.{Parts, class_of, class_at, may_merge}
use Rattle.tam_split.specs.PartitionLaws.{IsPartition}
use Rattle.tam_split.proofs.Classes.{partition-parts}
use Rattle.tam_quotient.proofs.Surroundings.{few-classes}
use Rattle.tam_split.specs.KeptParts.{AreClasses}
use Rattle.tam_part.specs.Kept.{AreDone, IsLeast, first_in}
use Rattle.tam_part.proofs.Leasts.{first-least}
use Rattle.tam_part.proofs.LeastPairs.{pair-first}
use Rattle.tam_part.proofs.Standing.{member-class}
use Rattle.tam_part.proofs.merging.partner.Goals as goal

-- a pair before class k, where none with k may be merged either
row : (b : BlockGraph) (p : Parts) (k m : ℕ) → AreDone b p k → ((a : ℕ) → a < m → may_merge b p (a, k) ≡ false) → (a c : ℕ) → a < m → a < k → a < c
    → c < length p → may_merge b p (a, c) ≡ false
row b p k m done column a c low under above within = go (c == k) refl
  where
    go : (t : Bool) → (c == k) ≡ t → may_merge b p (a, c) ≡ false
    go true e = subst (λ z. may_merge b p (a, z) ≡ false) (sym (number-eq c k e)) (column a low)
    go false e = done a c under above within (number-differs c k e)

-- the class of a place that stands in it
own : (b : BlockGraph) (p : Parts) → IsPartition b p → (k x : ℕ) → has (class_at p k) x ≡ true → class_of p x ≡ k
own b p whole k x member = (member-class (length b.vertices) p (partition-parts b p whole) k x member).0

-- what holds for those between m and n, and for n, holds for those between m and n + 1
one_more : (test : ℕ → Bool) (n a : ℕ) → (a < n → test a ≡ false) → test n ≡ false → a < n + 1 → test a ≡ false
one_more test n a before here low = go (a == n) refl
  where
    go : (t : Bool) → (a == n) ≡ t → test a ≡ false
    go true e = subst (λ z. test z ≡ false) (sym (number-eq a n e)) here
    go false e = before (let d = number-differs a n e in omega (arith, low, d))

-- the first place of a class is its least
least : (b : BlockGraph) (p : Parts) → IsPartition b p → AreClasses p → (k x : ℕ) → k < length p → x ≡ first_in p k → IsLeast p x
least b p whole kept k x h e = first-least p kept (length b.vertices) (partition-parts b p whole) x k h e

pub joins-requires-clause-least : goal.joins-requires-clause-least
joins-requires-clause-least c = (
  least c.args.b.now c.args.p.now c.requires.whole c.requires.kept c.loop-j.j c.place_of.result (omega (arith, c.loop-j-test.true, c.requires.in_range))
      c.place_of.ensures.value,
  least c.args.b.now c.args.p.now c.requires.whole c.requires.kept c.args.k c.place_of-place.result c.requires.in_range c.place_of-place.ensures.value,
)

pub joins-requires-in-loop-l-clause-least : goal.joins-requires-in-loop-l-clause-least
joins-requires-in-loop-l-clause-least c = (
  least c.args.b.now c.args.p.now c.requires.whole c.requires.kept c.args.k c.place_of-place.result c.requires.in_range c.place_of-place.ensures.value,
  least c.args.b.now c.args.p.now c.requires.whole c.requires.kept c.loop-l.l c.place_of-in-loop-l.result
      (omega (arith, c.loop-l-test.true, c.classes-l-end.ensures.value)) c.place_of-in-loop-l.ensures.value,
)

pub joins-requires-clause-in_order : goal.joins-requires-clause-in_order
joins-requires-clause-in_order c =
    subst₂ (λ x y. x < y) (sym (own c.args.b.now c.args.p.now c.requires.whole c.loop-j.j c.place_of.result c.place_of.ensures.member))
    (sym (own c.args.b.now c.args.p.now c.requires.whole c.args.k c.place_of-place.result c.place_of-place.ensures.member)) c.loop-j-test.true

pub returns-then-joins-clause-least : goal.returns-then-joins-clause-least
returns-then-joins-clause-least c =
    let b = c.args.b.now in
    let p = c.args.p.now in
    let met : may_merge b p (c.loop-j.j, c.args.k) ≡ true = sym (ap₂ (λ x y. may_merge b p (x, y))
    (own b p c.requires.whole c.loop-j.j c.place_of.result c.place_of.ensures.member)
    (own b p c.requires.whole c.args.k c.place_of-place.result c.place_of-place.ensures.member)) ∙ (sym c.joins.ensures.value ∙ c.if-joins.true) in
    sym (pair-first (may_merge b p) (length p) c.loop-j.j c.args.k c.loop-j-test.true c.requires.in_range met
    (record {
      rows = λ a d low order within. row b p c.args.k c.loop-j.j c.requires.done c.loop-j.invariant.here a d low
          (omega (arith, low, c.loop-j-test.true)) order within;
      here = λ d above low. c.requires.done c.loop-j.j d c.loop-j-test.true above (omega (arith, low, c.requires.in_range)) (λ e. omega (arith, low, e));
    }))

pub loop-j-preserved : goal.loop-j-preserved
loop-j-preserved c =
    let b = c.args.b.now in
    let p = c.args.p.now in
    let other : may_merge b p (c.loop-j.j, c.args.k) ≡ false = sym (ap₂ (λ x y. may_merge b p (x, y))
    (own b p c.requires.whole c.loop-j.j c.place_of.result c.place_of.ensures.member)
    (own b p c.requires.whole c.args.k c.place_of-place.result c.place_of-place.ensures.member)) ∙ (sym c.joins.ensures.value ∙ c.if-joins.false) in
    record {
      here = λ a low. one_more (λ x. may_merge b p (x, c.args.k)) c.loop-j.j a (c.loop-j.invariant.here a) other low;
      separated = c.joins.ensures.separated;
    }

pub overflow_step-l : goal.overflow_step-l
overflow_step-l c = let few = few-classes c.args.p.now c.requires.kept in omega (arith, few, c.requires.in_range)

pub joins-requires-in-loop-l-clause-in_order : goal.joins-requires-in-loop-l-clause-in_order
joins-requires-in-loop-l-clause-in_order c =
    let lower : c.args.k < c.loop-l.l = omega (arith, c.loop-l.auto.l) in
    subst₂ (λ x y. x < y) (sym (own c.args.b.now c.args.p.now c.requires.whole c.args.k c.place_of-place.result c.place_of-place.ensures.member))
    (sym (own c.args.b.now c.args.p.now c.requires.whole c.loop-l.l c.place_of-in-loop-l.result c.place_of-in-loop-l.ensures.member)) lower

pub returns-then-joins-2-clause-least : goal.returns-then-joins-2-clause-least
returns-then-joins-2-clause-least c =
    let b = c.args.b.now in
    let p = c.args.p.now in
    let lower : c.args.k < c.loop-l.l = omega (arith, c.loop-l.auto.l) in
    let met : may_merge b p (c.args.k, c.loop-l.l) ≡ true = sym (ap₂ (λ x y. may_merge b p (x, y))
    (own b p c.requires.whole c.args.k c.place_of-place.result c.place_of-place.ensures.member)
    (own b p c.requires.whole c.loop-l.l c.place_of-in-loop-l.result c.place_of-in-loop-l.ensures.member))
    ∙ (sym c.joins-in-loop-l.ensures.value ∙ c.if-joins-2.true) in
    sym (pair-first (may_merge b p) (length p) c.args.k c.loop-l.l lower (omega (arith, c.loop-l-test.true, c.classes-l-end.ensures.value))
    met
    (record {
      rows = λ a d low order within. row b p c.args.k c.args.k c.requires.done c.loop-l.invariant.before a d low low order within;
      here = c.loop-l.invariant.here;
    }))

pub loop-l-preserved : goal.loop-l-preserved
loop-l-preserved c =
    let b = c.args.b.now in
    let p = c.args.p.now in
    let other : may_merge b p (c.args.k, c.loop-l.l) ≡ false = sym (ap₂ (λ x y. may_merge b p (x, y))
    (own b p c.requires.whole c.args.k c.place_of-place.result c.place_of-place.ensures.member)
    (own b p c.requires.whole c.loop-l.l c.place_of-in-loop-l.result c.place_of-in-loop-l.ensures.member))
    ∙ (sym c.joins-in-loop-l.ensures.value ∙ c.if-joins-2.false) in
    record {
      before = c.loop-l.invariant.before;
      here = λ d above low. one_more (λ x. may_merge b p (c.args.k, x)) c.loop-l.l d (c.loop-l.invariant.here d above) other low;
      separated = c.joins-in-loop-l.ensures.separated;
    }
