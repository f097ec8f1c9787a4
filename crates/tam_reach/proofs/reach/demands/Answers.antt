use Rattle.std.proofs.Common.{◌≡◌, ◌-◌, ◌<◌, ◌≤◌, ◌++◌, ◌∙◌, sym, ap, subst, arith, List, ℕ, map, length, take, drop, get_or, ◌∷◌}
use Rattle.std.proofs.lemmas.List.{take_at}
use Rattle.tam_word.specs.Lists.{below}
use Rattle.tam_split.specs.declared.vertex.Vertex.{Vertex}
use Rattle.tam_reach.proofs.Spread.{reached, demands-step, edge-read, edge-next, length-map-below}
use Rattle.tam_reach.proofs.PlacesThat.{demands-end}
use Rattle.tam_reach.proofs.reach.demands.Goals as goal

pub spread-requires : goal.spread-requires
spread-requires c =
    let vs = c.vertices-vertices.result.now in
    let es = c.edges-edges.result.now in
    let k = c.loop-place.place - 1 in
    let there : k < length es = omega arith in
    let edge = edge-read c.args.b.now c.edges-edges.ensures.block vs es c.vertices-vertices.ensures.value c.edges-edges.ensures.value k (0, 0) there in
    let many : length c.deref_mut.result.now ≡ length vs =
    ap length c.deref_mut.ensures.value ∙ (ap length c.loop-place.invariant ∙ length-map-below (reached (drop c.loop-place.place es)) (length vs)) in
    record { in_range = subst (λ (n : ℕ). (get_or es k (0, 0)).1 < n) (sym many) edge.1 }

pub loop-place-preserved : goal.loop-place-preserved
loop-place-preserved c =
    let vs = c.vertices-vertices.result.now in
    let es = c.edges-edges.result.now in
    let k = c.loop-place.place - 1 in
    let there : k < length es = omega arith in
    let edge = edge-read c.args.b.now c.edges-edges.ensures.block vs es c.vertices-vertices.ensures.value c.edges-edges.ensures.value k (0, 0) there in
    let few : length vs ≤ 512 = subst (λ (ws : List Vertex). length ws ≤ 512) (sym c.vertices-vertices.ensures.value) c.vertices-vertices.ensures.few in
    let next : drop k es ≡ get_or es k (0, 0) ∷ drop c.loop-place.place es = edge-next es k c.loop-place.place (0, 0) there (omega arith) in
    let new = c.spread.new.sets in
    let step : new ≡ map (reached (drop k es)) (below (length vs)) =
    demands-step (length vs) (drop c.loop-place.place es) (drop k es) (get_or es k (0, 0)) c.deref_mut.result.now new few next edge.0 edge.1
    (c.deref_mut.ensures.value ∙ c.loop-place.invariant) c.spread.ensures.value in
    let long : length new ≡ c.loop-place.sets.len = omega (arith, ap length c.deref_mut.ensures.value, c.deref_mut.ensures.len) in
    let back : take c.loop-place.sets.len (new ++ drop (length new) c.loop-place.sets.items) ≡ new = take_at new
    (drop (length new) c.loop-place.sets.items) c.loop-place.sets.len long in
    back ∙ step

pub returns : goal.returns
returns c =
    let vs = c.vertices-vertices.result.now in
    let es = c.edges-edges.result.now in
    let new = c.keep.new.sets in
    let first : c.loop-place.place ≡ 0 = omega arith in
    let all =
    demands-end c.args.b.now vs es c.loop-place.place c.deref_mut-2.result.now new c.outlets.result c.vertices-vertices.ensures.value
    c.edges-edges.ensures.value c.vertices-vertices.ensures.few first (c.deref_mut-2.ensures.value
    ∙ c.loop-place.invariant) c.outlets.ensures.value c.keep.ensures.value in
    let long : length new ≡ c.loop-place.sets.len = omega (arith, ap length c.deref_mut-2.ensures.value, c.deref_mut-2.ensures.len) in
    let back : take c.loop-place.sets.len (new ++ drop (length new) c.loop-place.sets.items) ≡ new = take_at new
    (drop (length new) c.loop-place.sets.items) c.loop-place.sets.len long in
    record { value = back ∙ all }
