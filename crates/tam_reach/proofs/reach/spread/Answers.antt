use Rattle.std.proofs.Common.{◌≡◌, ◌∙◌, sym, ap, true, false, refl, List, ℕ, get_or}
use Rattle.std.specs.Prelude.{slice_set}
use Rattle.std.proofs.lemmas.List.Edits.{map_over_more}
use Rattle.tam_word.specs.Lists.{has}
use Rattle.tam_sets.specs.Sets.{joined}
use Rattle.tam_reach.specs.Reached.{spread_into}
use Rattle.tam_reach.proofs.reach.spread.Goals as goal
use Rattle.tam_reach.proofs.reach.spread.Goals.{then-has, else-has}

pub loop-set-preserved : goal.loop-set-preserved
loop-set-preserved c =
    let sets = c.loop-set.sets in
    let i = c.loop-set.set-index in
    let set = get_or sets i c.set-item.result in
    let read : set ≡ get_or sets i set = ap (λ (s : List ℕ). get_or sets i s) c.set-item.is in
    let more = c.index-sets-from.result in
    let step = map_over_more (spread_into c.args.at more) c.args.sets.now sets i set c.loop-set-test.true c.loop-set.invariant read in
    elim c.if-has.branch [
      | then-has w ↦ (
          let test : has set c.args.at ≡ true = sym c.has.ensures.value ∙ w.if-has.true in
          let same : spread_into c.args.at more set ≡ joined set more = rw (spread_into, test) refl in
          w.sets-is ∙ (ap (λ (s : List ℕ). slice_set sets i s) (w.join.ensures.value ∙ sym same) ∙ step))
      | else-has w ↦ (
          let test : has set c.args.at ≡ false = sym c.has.ensures.value ∙ w.if-has.false in
          let same : spread_into c.args.at more set ≡ set = rw (spread_into, test) refl in
          w.sets-is ∙ (ap (λ (s : List ℕ). slice_set sets i s) (sym same) ∙ step))
    ]
