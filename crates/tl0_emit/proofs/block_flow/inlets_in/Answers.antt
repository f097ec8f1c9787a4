use Rattle.std.proofs.Common.{◌≡◌, ◌<◌, true, false, length, get_or, sym, ap, ◌∙◌, arith}
use Rattle.tam_split.specs.declared.vertex.Vertex.{Vertex}
use Rattle.tam_split.specs.Blocks.{vertex_at}
use Rattle.tam_order.proofs.Rows.{has-at}
use Rattle.tl0_emit.proofs.ClassFlows.{bit, count-more, vertex-got}
use Rattle.tl0_emit.proofs.block_flow.inlets_in.Goals as goal
use Rattle.tl0_emit.proofs.block_flow.inlets_in.Goals.{then-vertices-place, else-vertices-place}

pub bounds-vertices-place : goal.bounds-vertices-place
bounds-vertices-place c =
    let there : c.loop-place.place-index < length c.args.class.now = omega arith in
    let i = c.requires.inside _ (has-at c.args.class.now c.loop-place.place-index there) in
    omega (arith, i, ap (λ vs. length vs) c.vertices.ensures.value)

pub loop-place-preserved : goal.loop-place-preserved
loop-place-preserved c =
    let there : c.loop-place.place-index < length c.args.class.now = omega arith in
    let x = get_or c.args.class.now c.loop-place.place-index 0 in
    let i = c.requires.inside x (has-at c.args.class.now c.loop-place.place-index there) in
    let more = count-more (λ y. (vertex_at c.args.b.now y).inlet) c.args.class.now c.loop-place.place-index c.loop-place.count there ∙ c.loop-place.invariant in
    let got = λ (blank : Vertex). vertex-got c.args.b.now c.vertices.result.now c.vertices.ensures.value x blank i in
    elim c.if-vertices-place.branch [
      | then-vertices-place w ↦
          let t : bit (vertex_at c.args.b.now x).inlet ≡ bit true = ap bit (ap (λ (v : Vertex). v.inlet) (sym (got _)) ∙ w.if-vertices-place.true) in
          omega (arith, more, t, w.count-is)
      | else-vertices-place w ↦
          let t : bit (vertex_at c.args.b.now x).inlet ≡ bit false = ap bit (ap (λ (v : Vertex). v.inlet) (sym (got _)) ∙ w.if-vertices-place.false) in
          omega (arith, more, t, w.count-is)
    ]
