use Rattle.std.proofs.Common.{ℕ, Bool, ◌∙◌, sym, ap, refl, take, get_or}
use Rattle.std.proofs.lemmas.List.{take_more}
use Rattle.tam_word.specs.Lists.{has}
use Rattle.tam_sets.specs.Sets.{with_place}
use Rattle.tam_sets.proofs.PlacesWhere.{where-none}
use Rattle.tam_quotient.specs.Tables.{entered}
use Rattle.tam_quotient.proofs.Tabling.{places-put, places-skip}
use Rattle.tam_quotient.proofs.gather.entering.Goals as goal
use Rattle.tam_quotient.proofs.gather.entering.Goals.{then-has, else-has}

pub loop-place-init : goal.loop-place-init
loop-place-init c = c.empty-set.ensures.value ∙ sym (where-none _ (λ x l. refl))

pub loop-place-preserved : goal.loop-place-preserved
loop-place-preserved c =
    let ps = c.args.inlets.now in
    let n = c.loop-place.place-index in
    let place : ℕ = get_or ps n 0 in
    let test : ℕ → Bool = λ i. has c.args.behind.now (get_or c.args.classes.now i 0) in
    let next = ap (λ xs. entered xs c.args.classes.now c.args.behind.now) (sym (take_more ps n 0 c.loop-place-test.true)) in
    elim c.if-has.branch [
      | then-has w ↦ w.set-is ∙ (w.insert.ensures.value ∙ (ap (with_place place) c.loop-place.invariant
          ∙ (places-put (take n ps) place test (sym c.has.ensures.value ∙ w.if-has.true) ∙ next)))
      | else-has w ↦ w.set-is ∙ (c.loop-place.invariant ∙ (places-skip (take n ps) place test (sym c.has.ensures.value ∙ w.if-has.false) ∙ next))
    ]
