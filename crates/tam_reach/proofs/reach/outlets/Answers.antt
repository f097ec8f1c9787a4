use Rattle.std.proofs.Common.{◌∙◌, ap, List, ℕ}
use Rattle.tam_sets.specs.Sets.{with_place}
use Rattle.tam_split.specs.declared.vertex.Vertex.{Vertex}
use Rattle.tam_reach.proofs.PlacesThat.{up_to-none, up_to-more, up_to-same}
use Rattle.tam_reach.proofs.reach.outlets.Goals as goal
use Rattle.tam_reach.proofs.reach.outlets.Goals.{then-vertex, else-vertex}

pub loop-place-init : goal.loop-place-init
loop-place-init c = c.empty-outlets.ensures.value ∙ up_to-none (λ v. v.outlet) c.args.vertices.now

pub loop-place-preserved : goal.loop-place-preserved
loop-place-preserved c =
    let test = λ (v : Vertex). v.outlet in
    elim c.if-vertex.branch [
      | then-vertex w ↦ w.outlets-is
          ∙ (w.insert.ensures.value
          ∙ (ap (λ (xs : List ℕ). with_place c.loop-place.place xs) c.loop-place.invariant
          ∙ up_to-more test c.args.vertices.now c.loop-place.place _ c.loop-place-test.true w.if-vertex.true))
      | else-vertex w ↦ w.outlets-is ∙
          (c.loop-place.invariant ∙ up_to-same test c.args.vertices.now c.loop-place.place _ c.loop-place-test.true w.if-vertex.false)
    ]
