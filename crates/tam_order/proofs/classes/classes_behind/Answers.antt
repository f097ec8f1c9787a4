use Rattle.std.proofs.Common.{ℕ, ◌≡◌, ◌<◌, ◌∙◌, ◌-◌, List, [], ◌∷◌, map, sym, ap, drop, length, slice_set, slice_index, get_or, arith}
use Rattle.tam_word.specs.Lists.{below}
use Rattle.tam_graph.specs.Edges.{Edges}
use Rattle.tam_sets.specs.Sets.{with_place}
use Rattle.tam_split.specs.Partitions.{class_of}
use Rattle.tam_split.proofs.Stored.{few-classes}
use Rattle.tam_reach.proofs.Spread.{edge-inside, edge-next, length-map-below, get-map-below}
use Rattle.tam_order.specs.ClassOrders.{behind_of}
use Rattle.tam_order.proofs.Rows.{rows-empty}
use Rattle.tam_order.proofs.ClassNumbers.{length-numbers, numbers-at}
use Rattle.tam_order.proofs.EdgeSteps.{behind-grows, behind-same, none-behind}
use Rattle.tam_order.proofs.classes.classes_behind.Goals as goal

pub loop-place-init : goal.loop-place-init
loop-place-init c =
    let es = c.edges-edges.result.now in
    rows-empty (behind_of (drop (length es) es) c.args.p.now) (length c.args.p.now) c.in_ok-sets.sets.items
    (c.in_ok-sets.ensures.value ∙ ap (λ n. map (λ _. []) (below n)) c.classes.ensures.value) (none-behind es c.args.p.now)

pub bounds-numbers-giver : goal.bounds-numbers-giver
bounds-numbers-giver c =
    let there : c.loop-place.place - 1 < length c.args.b.now.edges = let l = ap length c.edges-edges.ensures.value in omega (arith, l) in
    let inside = edge-inside c.args.b.now c.edges-edges.ensures.block (c.loop-place.place - 1) (0, 0) there in
    let read = ap (λ (fs : Edges). (get_or fs (c.loop-place.place - 1) (0, 0)).0) c.edges-edges.ensures.value in
    let long = ap length c.requires.numbers ∙ length-numbers (class_of c.args.p.now) (length c.args.b.now.vertices) in
    omega (arith, inside.0, read, long)

pub bounds-numbers-taker : goal.bounds-numbers-taker
bounds-numbers-taker c =
    let there : c.loop-place.place - 1 < length c.args.b.now.edges = let l = ap length c.edges-edges.ensures.value in omega (arith, l) in
    let inside = edge-inside c.args.b.now c.edges-edges.ensures.block (c.loop-place.place - 1) (0, 0) there in
    let read = ap (λ (fs : Edges). (get_or fs (c.loop-place.place - 1) (0, 0)).1) c.edges-edges.ensures.value in
    let long = ap length c.requires.numbers ∙ length-numbers (class_of c.args.p.now) (length c.args.b.now.vertices) in
    omega (arith, inside.1, read, long)

pub index_mut-requires : goal.index_mut-requires
index_mut-requires c =
    let es = c.edges-edges.result.now in
    let e = get_or es (c.loop-place.place - 1) (0, 0) in
    let there : c.loop-place.place - 1 < length c.args.b.now.edges = let l = ap length c.edges-edges.ensures.value in omega (arith, l) in
    let inside = edge-inside c.args.b.now c.edges-edges.ensures.block (c.loop-place.place - 1) (0, 0) there in
    let read = ap (λ (fs : Edges). (get_or fs (c.loop-place.place - 1) (0, 0)).0) c.edges-edges.ensures.value in
    let small : e.0 < length c.args.b.now.vertices = omega (arith, inside.0, read) in
    let number : slice_index c.args.numbers.now e.0 ≡ class_of c.args.p.now e.0 =
    ap (λ xs. slice_index xs e.0) c.requires.numbers ∙ numbers-at (class_of c.args.p.now) (length c.args.b.now.vertices) e.0 small in
    let one = c.requires.whole.in_one e.0 small in
    let long = ap length c.loop-place.invariant ∙ length-map-below (behind_of (drop c.loop-place.place es) c.args.p.now) (length c.args.p.now) in
    omega (arith, number, one, long)

pub insert-requires : goal.insert-requires
insert-requires c =
    let es = c.edges-edges.result.now in
    let e = get_or es (c.loop-place.place - 1) (0, 0) in
    let there : c.loop-place.place - 1 < length c.args.b.now.edges = let l = ap length c.edges-edges.ensures.value in omega (arith, l) in
    let inside = edge-inside c.args.b.now c.edges-edges.ensures.block (c.loop-place.place - 1) (0, 0) there in
    let read = ap (λ (fs : Edges). (get_or fs (c.loop-place.place - 1) (0, 0)).1) c.edges-edges.ensures.value in
    let small : e.1 < length c.args.b.now.vertices = omega (arith, inside.1, read) in
    let number : slice_index c.args.numbers.now e.1 ≡ class_of c.args.p.now e.1 =
    ap (λ xs. slice_index xs e.1) c.requires.numbers ∙ numbers-at (class_of c.args.p.now) (length c.args.b.now.vertices) e.1 small in
    let one = c.requires.whole.in_one e.1 small in
    let few = few-classes c.args.p.now c.classes.ensures.kept in
    record { in_range = omega (arith, number, one, few) }

pub loop-place-preserved-then-from-to : goal.loop-place-preserved-then-from-to
loop-place-preserved-then-from-to c =
    let es = c.edges-edges.result.now in
    let ps = c.args.p.now in
    let n = length c.args.b.now.vertices in
    let k = c.loop-place.place - 1 in
    let e = get_or es k (0, 0) in
    let rest = drop c.loop-place.place es in
    let there : k < length es = omega arith in
    let next : drop k es ≡ e ∷ rest = edge-next es k c.loop-place.place (0, 0) there (omega arith) in
    let inside = edge-inside c.args.b.now c.edges-edges.ensures.block k (0, 0) (let l = ap length c.edges-edges.ensures.value in omega (arith, l)) in
    let from_small : e.0 < n = let read = ap (λ (fs : Edges). (get_or fs k (0, 0)).0) c.edges-edges.ensures.value in omega (arith, inside.0, read) in
    let to_small : e.1 < n = let read = ap (λ (fs : Edges). (get_or fs k (0, 0)).1) c.edges-edges.ensures.value in omega (arith, inside.1, read) in
    let from : slice_index c.args.numbers.now e.0 ≡ class_of ps e.0 = ap (λ xs. slice_index xs e.0) c.requires.numbers
    ∙ numbers-at (class_of ps) n e.0 from_small in
    let to : slice_index c.args.numbers.now e.1 ≡ class_of ps e.1 = ap (λ xs. slice_index xs e.1) c.requires.numbers
    ∙ numbers-at (class_of ps) n e.1 to_small in
    let one = c.requires.whole.in_one e.0 from_small in
    let before = c.loop-place.invariant in
    let d = c.index_mut.result.now in
    let old : d ≡ behind_of rest ps (class_of ps e.0) =
    c.index_mut.ensures.value ∙ (ap (λ (rows : List (List ℕ)). get_or rows (slice_index c.args.numbers.now e.0) d) before
    ∙ (ap (λ j. get_or (map (behind_of rest ps) (below (length ps))) j d) from ∙ get-map-below (behind_of rest ps) (length ps) (class_of ps e.0) d one)) in
    let row = c.insert.ensures.value ∙ (ap (λ j. with_place j d) to ∙ ap (with_place (class_of ps e.1)) old) in
    ap (λ (rows : List (List ℕ)). slice_set rows (slice_index c.args.numbers.now e.0) c.insert.new.self) before
    ∙ (ap (λ j. slice_set (map (behind_of rest ps) (below (length ps))) j c.insert.new.self) from
    ∙ (behind-grows rest e ps (length ps) c.insert.new.self one (λ q. c.if-from-to.true (from ∙ (q ∙ sym to))) row
    ∙ ap (λ fs. map (behind_of fs ps) (below (length ps))) (sym next)))

pub loop-place-preserved : goal.loop-place-preserved
loop-place-preserved c =
    let es = c.edges-edges.result.now in
    let ps = c.args.p.now in
    let n = length c.args.b.now.vertices in
    let k = c.loop-place.place - 1 in
    let e = get_or es k (0, 0) in
    let rest = drop c.loop-place.place es in
    let there : k < length es = omega arith in
    let next : drop k es ≡ e ∷ rest = edge-next es k c.loop-place.place (0, 0) there (omega arith) in
    let inside = edge-inside c.args.b.now c.edges-edges.ensures.block k (0, 0) (let l = ap length c.edges-edges.ensures.value in omega (arith, l)) in
    let from_small : e.0 < n = let read = ap (λ (fs : Edges). (get_or fs k (0, 0)).0) c.edges-edges.ensures.value in omega (arith, inside.0, read) in
    let to_small : e.1 < n = let read = ap (λ (fs : Edges). (get_or fs k (0, 0)).1) c.edges-edges.ensures.value in omega (arith, inside.1, read) in
    let from : slice_index c.args.numbers.now e.0 ≡ class_of ps e.0 = ap (λ xs. slice_index xs e.0) c.requires.numbers
    ∙ numbers-at (class_of ps) n e.0 from_small in
    let to : slice_index c.args.numbers.now e.1 ≡ class_of ps e.1 = ap (λ xs. slice_index xs e.1) c.requires.numbers
    ∙ numbers-at (class_of ps) n e.1 to_small in
    c.loop-place.invariant ∙ behind-same rest e (drop k es) ps (length ps) next (sym from ∙ (c.if-from-to.false ∙ to))
