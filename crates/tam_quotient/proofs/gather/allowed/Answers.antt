use Rattle.std.proofs.Common.{◌≡◌, ℕ, ◌<◌, ◌&&◌, [], Bool, true, false, refl, sym, ap, arith, ◌∙◌, length, take, get_or}
use Rattle.std.proofs.lemmas.List.{get_or_read, take_more}
use Rattle.tam_word.specs.Lists.{has}
use Rattle.tam_sets.specs.Sets.{met}
use Rattle.tam_sets.proofs.PlacesWhere.{places-same}
use Rattle.tam_quotient.specs.Tables.{is_met, permitted}
use Rattle.tam_quotient.proofs.Tabling.{met-more, met-same}
use Rattle.tam_quotient.proofs.gather.allowed.Goals as goal
use Rattle.tam_quotient.proofs.gather.allowed.Goals.{then-has, else-has}

-- a number that is there and no further condition
alone : (t : Bool) → t ≡ (t && true)
alone true = refl
alone false = refl

pub loop-place-init : goal.loop-place-init
loop-place-init c = c.set_of-set.ensures.value ∙ places-same _ _ (λ x l. alone (has c.args.inlets.now x))

pub loop-place-preserved : goal.loop-place-preserved
loop-place-preserved c =
    let os = c.args.outlets.now in
    let n = c.loop-place.place-index in
    let o : ℕ = get_or os n 0 in
    let inlet : ℕ → Bool = has c.args.inlets.now in
    let test : ℕ → ℕ → Bool = is_met c.args.classes.now c.args.ahead.now c.args.depends.now in
    let low : o < length c.args.depends.now = let l = c.requires.outlets n 0 c.loop-place-test.true in omega (arith, l, c.requires.depends) in
    let next = ap (λ xs. permitted c.args.inlets.now xs c.args.classes.now c.args.ahead.now c.args.depends.now)
    (sym (take_more os n 0 c.loop-place-test.true)) in
    elim c.if-has.branch [
      | then-has w ↦
          let led = sym c.has.ensures.value ∙ w.if-has.true in
          let read = get_or_read c.args.depends.now o w.index-depends-place.result low w.index-depends-place.is [] in
          let at : (i : ℕ) → i < 512 → test i o ≡ has w.index-depends-place.result i = λ i l. rw (is_met, led) (ap (λ xs. has xs i) (sym read)) in
          w.set-is ∙ (w.meet-set.ensures.value ∙ (ap (λ xs. met xs w.index-depends-place.result) c.loop-place.invariant
          ∙ (met-more inlet test (take n os) o w.index-depends-place.result at ∙ next)))
      | else-has w ↦
          let led = sym c.has.ensures.value ∙ w.if-has.false in
          w.set-is ∙ (c.loop-place.invariant ∙ (met-same inlet test (take n os) o (λ i. rw (is_met, led) refl) ∙ next))
    ]
