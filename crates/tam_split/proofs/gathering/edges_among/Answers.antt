use Rattle.std.proofs.Common.{◌∙◌, ◌++◌, sym, ap, arith, length, get_or, None}
use Rattle.tam_split.specs.Blocks.{or_vertex}
use Rattle.tam_split.specs.Takers.{edges_to_takers}
use Rattle.tam_split.proofs.Gathered.{same-length, takers-edges, step-first, step-ask}
use Rattle.tam_split.proofs.gathering.edges_among.Goals as goal
use Rattle.tam_split.proofs.gathering.edges_among.Goals.{then-not-is_ask+in_ok-push_edges_from, else-not-is_ask}

pub push_edges_from-requires : goal.push_edges_from-requires
push_edges_from-requires c =
    let same = same-length c.args.code.now c.args.vertices.now c.in_ok-taken.taken.items c.in_ok-taken.ensures.same in
    record { few = omega (arith, same, ap length c.deref.ensures.value, c.requires.few) }

pub loop-place-preserved : goal.loop-place-preserved
loop-place-preserved c =
    elim c.if-not-is_ask.branch [
      | then-not-is_ask+in_ok-push_edges_from w ↦ rw w.edges-is (step-first c.args.code.now c.args.vertices.now c.loop-place.place _ c.loop-place.edges.items
          w.push_edges_from.new.edges.items c.loop-place-test.true c.loop-place.invariant
          (w.in_ok-push_edges_from.ensures.value ∙ ap (λ es. c.loop-place.edges.items ++ es)
          (ap (λ ts. edges_to_takers ts c.loop-place.place _) w.deref.ensures.value
          ∙ takers-edges c.args.code.now c.args.vertices.now c.in_ok-taken.taken.items c.loop-place.place
          (get_or c.args.vertices.now c.loop-place.place (or_vertex None)) c.in_ok-taken.ensures.same
          (sym c.is_ask.ensures.value ∙ w.if-not-is_ask.true))))
      | else-not-is_ask w ↦ rw w.edges-is (step-ask c.args.code.now c.args.vertices.now c.loop-place.place _ c.loop-place.edges.items c.loop-place-test.true
          (sym c.is_ask.ensures.value ∙ w.if-not-is_ask.false) c.loop-place.invariant)
    ]
