use Rattle.std.proofs.Common.{ℕ, ◌≡◌, ◌<◌, ◌∙◌, ◌-◌, List, [], ◌∷◌, map, sym, ap, drop, length, slice_set, get_or, arith}
use Rattle.tam_word.specs.Lists.{below}
use Rattle.tam_graph.specs.Edges.{Edges}
use Rattle.tam_sets.specs.Sets.{with_place}
use Rattle.tam_reach.proofs.Spread.{edge-inside, edge-next, length-map-below, get-map-below}
use Rattle.tam_order.specs.ClassOrders.{preceding_of}
use Rattle.tam_order.proofs.Rows.{rows-empty}
use Rattle.tam_order.proofs.EdgeSteps.{preceding-grows, none-precede}
use Rattle.tam_order.proofs.firing.preceding.Goals as goal

pub loop-place-init : goal.loop-place-init
loop-place-init c =
    let es = c.edges-edges.result.now in
    let many : length c.vertices.result.now ≡ length c.args.b.now.vertices = ap length c.vertices.ensures.value in
    rows-empty (preceding_of (drop (length es) es)) (length c.args.b.now.vertices) c.in_ok-sets.sets.items
    (c.in_ok-sets.ensures.value ∙ ap (λ n. map (λ _. []) (below n)) many) (none-precede es)

pub index_mut-requires : goal.index_mut-requires
index_mut-requires c =
    let es = c.edges-edges.result.now in
    let there : c.loop-place.place - 1 < length c.args.b.now.edges = let l = ap length c.edges-edges.ensures.value in omega (arith, l) in
    let inside = edge-inside c.args.b.now c.edges-edges.ensures.block (c.loop-place.place - 1) (0, 0) there in
    let read = ap (λ (fs : Edges). (get_or fs (c.loop-place.place - 1) (0, 0)).1) c.edges-edges.ensures.value in
    let long = ap length c.loop-place.invariant ∙ length-map-below (preceding_of (drop c.loop-place.place es)) (length c.args.b.now.vertices) in
    omega (arith, inside.1, read, long)

pub insert-requires : goal.insert-requires
insert-requires c =
    let there : c.loop-place.place - 1 < length c.args.b.now.edges = let l = ap length c.edges-edges.ensures.value in omega (arith, l) in
    let inside = edge-inside c.args.b.now c.edges-edges.ensures.block (c.loop-place.place - 1) (0, 0) there in
    let read = ap (λ (fs : Edges). (get_or fs (c.loop-place.place - 1) (0, 0)).0) c.edges-edges.ensures.value in
    record { in_range = omega (arith, inside.0, read, c.vertices.ensures.few) }

pub loop-place-preserved : goal.loop-place-preserved
loop-place-preserved c =
    let es = c.edges-edges.result.now in
    let n = length c.args.b.now.vertices in
    let k = c.loop-place.place - 1 in
    let e = get_or es k (0, 0) in
    let there : k < length es = omega arith in
    let next : drop k es ≡ e ∷ drop c.loop-place.place es = edge-next es k c.loop-place.place (0, 0) there (omega arith) in
    let inside = edge-inside c.args.b.now c.edges-edges.ensures.block k (0, 0) (let l = ap length c.edges-edges.ensures.value in omega (arith, l)) in
    let read = ap (λ (fs : Edges). (get_or fs k (0, 0)).1) c.edges-edges.ensures.value in
    let small : e.1 < n = omega (arith, inside.1, read) in
    let before = c.loop-place.invariant in
    let old : c.index_mut.result.now ≡ preceding_of (drop c.loop-place.place es) e.1 =
    c.index_mut.ensures.value ∙ (ap (λ (rows : List (List ℕ)). get_or rows e.1 c.index_mut.result.now) before
    ∙ get-map-below (preceding_of (drop c.loop-place.place es)) n e.1 c.index_mut.result.now small) in
    let row = c.insert.ensures.value ∙ ap (with_place e.0) old in
    ap (λ (rows : List (List ℕ)). slice_set rows e.1 c.insert.new.self) before
    ∙ (preceding-grows (drop c.loop-place.place es) e n c.insert.new.self small row ∙ ap (λ fs. map (preceding_of fs) (below n)) (sym next))
