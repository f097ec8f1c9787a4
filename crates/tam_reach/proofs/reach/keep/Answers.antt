use Rattle.std.proofs.Common.{◌≡◌, ◌∙◌, ap, List, ℕ, get_or}
use Rattle.std.specs.Prelude.{slice_set}
use Rattle.std.proofs.lemmas.List.Edits.{map_over_more}
use Rattle.tam_sets.specs.Sets.{met}
use Rattle.tam_reach.proofs.reach.keep.Goals as goal

pub loop-set-preserved : goal.loop-set-preserved
loop-set-preserved c =
    let sets = c.loop-set.sets in
    let i = c.loop-set.set-index in
    let set = get_or sets i c.set-item.result in
    let read : set ≡ get_or sets i set = ap (λ (s : List ℕ). get_or sets i s) c.set-item.is in
    ap (λ (s : List ℕ). slice_set sets i s) c.meet.ensures.value
    ∙ map_over_more (λ (s : List ℕ). met s c.args.other.now) c.args.sets.now sets i set c.loop-set-test.true c.loop-set.invariant read
