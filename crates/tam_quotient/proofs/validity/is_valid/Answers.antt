use Rattle.std.proofs.Common.{◌≡◌, ◌<◌, ◌≤◌, ℕ, Bool, ◌∙◌, refl, sym, ap, subst, arith, length, true}
use Rattle.tam_word.specs.Lists.{all_of, below}
use Rattle.tam_word.proofs.AllOf.{all_of-fails}
use Rattle.tam_word.proofs.Members.{has-below}
use Rattle.tam_split.proofs.Classes.{partition-parts}
use Rattle.tam_quotient.specs.Quotients.{closes_cycle, keeps_outlet}
use Rattle.tam_quotient.proofs.Tabling.{below-more, all-more, any-at, none-at}
use Rattle.tam_quotient.proofs.Deciding.{closes-not_valid, not_kept-not_valid, tests-valid}
use Rattle.tam_quotient.proofs.validity.is_valid.Goals as goal

pub returns-then-closes_cycle : goal.returns-then-closes_cycle
returns-then-closes_cycle c =
    let b = c.args.b.now in
    let p = c.args.p.now in
    let low : c.loop-edge.edge < length b.edges = omega (arith, c.loop-edge-test.true, ap length c.edges-edge-end.ensures.value) in
    let closes = sym c.closes_cycle.ensures.value ∙ c.if-closes_cycle.true in
    record { value = sym (closes-not_valid b p (any-at (closes_cycle b p) b.edges c.loop-edge.edge low closes)) }

pub returns-then-not-keeps : goal.returns-then-not-keeps
returns-then-not-keeps c =
    let b = c.args.b.now in
    let p = c.args.p.now in
    let low : c.loop-place.place < length b.vertices = omega (arith, c.loop-place-test.true, ap length c.vertices.ensures.value) in
    let kept = sym c.keeps.ensures.value ∙ c.if-not-keeps.true in
    record {
      value = sym (not_kept-not_valid b c.edges-edge-end.ensures.block c.vertices.ensures.few p (partition-parts b p c.requires.whole)
          (all_of-fails (keeps_outlet b p) c.loop-place.place kept (below (length b.vertices)) (has-below (length b.vertices) c.loop-place.place low)));
    }

pub loop-place-preserved : goal.loop-place-preserved
loop-place-preserved c =
    let test : ℕ → Bool = keeps_outlet c.args.b.now c.args.p.now in
    let kept : test c.loop-place.place ≡ true = sym c.keeps.ensures.value ∙ c.if-not-keeps.false in
    ap (all_of test) (below-more c.loop-place.place) ∙ (all-more test (below c.loop-place.place) c.loop-place.place ∙ rw (c.loop-place.invariant, kept) refl)

pub returns : goal.returns
returns c =
    let b = c.args.b.now in
    let p = c.args.p.now in
    let edges : length b.edges ≤ c.loop-edge.edge = omega (arith, c.loop-edge-test.false, ap length c.edges-edge-end.ensures.value) in
    let none = none-at (closes_cycle b p) b.edges (λ i h. c.loop-edge.invariant i (omega (arith, h, edges))) in
    let places : c.loop-place.place ≡ length b.vertices =
    omega (arith, c.loop-place-test.false, c.loop-place.auto.place-end, ap length c.vertices.ensures.value) in
    let kept = subst (λ n. all_of (keeps_outlet b p) (below n) ≡ true) places c.loop-place.invariant in
    record { value = sym (tests-valid b c.edges-edge-end.ensures.block c.vertices.ensures.few p (partition-parts b p c.requires.whole) none kept) }
