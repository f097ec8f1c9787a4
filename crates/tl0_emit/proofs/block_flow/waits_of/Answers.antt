use Rattle.std.proofs.Common.{◌≡◌, ◌<◌, ◌+◌, ◌++◌, [], ◌∷◌, map, length, sym, ap, ◌∙◌, arith}
use Rattle.std.proofs.lemmas.List.Sums.{count_by-le-length}
use Rattle.tam_word.specs.Lists.{below, has}
use Rattle.tam_reach.proofs.Spread.{length-map-below}
use Rattle.tam_split.specs.Blocks.{vertex_at}
use Rattle.tam_split.proofs.Stored.{few-classes}
use Rattle.tam_order.specs.ClassOrders.{behind_of}
use Rattle.tl0_keep.specs.Compiled.{waits_for, inlets_in}
use Rattle.tl0_emit.proofs.KnownParts.{class-few}
use Rattle.tl0_emit.proofs.ClassFlows.{waits-counted, map-more}
use Rattle.tl0_emit.proofs.block_flow.waits_of.Goals as goal

pub inlets_in-requires-clause-few : goal.inlets_in-requires-clause-few
inlets_in-requires-clause-few c =
    let f = class-few c.args.p.now c.classes-k-end.ensures.kept c.loop-k.k in omega (arith, f, ap (λ xs. length xs) c.class.ensures.value)

pub number_before-requires : goal.number_before-requires
number_before-requires c =
    let l = length-map-below (behind_of c.args.b.now.edges c.args.p.now) (length c.args.p.now) in
    let f = few-classes c.args.p.now c.classes-k-end.ensures.kept in
    let e = ap (λ xs. length xs) c.requires.behind in
    record { few = omega (arith, l, f, e) }

pub overflow_add-inlets_in : goal.overflow_add-inlets_in
overflow_add-inlets_in c =
    let f = class-few c.args.p.now c.classes-k-end.ensures.kept c.loop-k.k in
    let k = ap (λ xs. length xs) c.class.ensures.value in
    let i = count_by-le-length (λ x. (vertex_at c.args.b.now x).inlet) c.class.result.now in
    let l = length-map-below (behind_of c.args.b.now.edges c.args.p.now) (length c.args.p.now) in
    let m = few-classes c.args.p.now c.classes-k-end.ensures.kept in
    let e = ap (λ xs. length xs) c.requires.behind in
    let n = count_by-le-length (λ set. has set c.loop-k.k) c.args.behind.now in
    omega (arith, f, k, i, l, m, e, n, c.inlets_in.ensures.value, c.number_before.ensures.value)

pub loop-k-preserved : goal.loop-k-preserved
loop-k-preserved c =
    let m = few-classes c.args.p.now c.classes-k-end.ensures.kept in
    let k = c.loop-k.k in
    let low : k < 512 = omega (arith, m, c.classes-k-end.ensures.value) in
    let inlets = c.inlets_in.ensures.value ∙ ap (inlets_in c.args.b.now) c.class.ensures.value in
    let e = waits-counted c.args.b.now c.args.p.now c.args.behind.now k c.requires.behind low in
    let s : c.inlets_in.result + c.number_before.result ≡ waits_for c.args.b.now c.args.p.now k =
    omega (arith, e, inlets, c.number_before.ensures.value) in
    c.in_ok-push.ensures.items ∙ (ap (λ xs. xs ++ (c.inlets_in.result + c.number_before.result) ∷ []) c.loop-k.invariant
    ∙ (ap (λ n. map (waits_for c.args.b.now c.args.p.now) (below k) ++ n ∷ []) s ∙ sym (map-more (waits_for c.args.b.now c.args.p.now) k)))
