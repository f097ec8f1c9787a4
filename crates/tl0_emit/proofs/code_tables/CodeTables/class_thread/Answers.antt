use Rattle.std.proofs.Common.{ℕ, List, ◌≡◌, ◌++◌, flat_map, filter, length, get_or, slice_index, sym, ap, ◌∙◌, arith}
use Rattle.tam_word.specs.Lists.{below, has}
use Rattle.tam_word.proofs.Members.{in-has, has-in}
use Rattle.tam_reach.proofs.Spread.{length-map-below, get-map-below}
use Rattle.tam_split.specs.Blocks.{block_graph, vertex_at}
use Rattle.tam_split.specs.Partitions.{class_at}
use Rattle.tam_split.specs.GraphPartitions.{firing_order}
use Rattle.tam_split.proofs.Vertices.{few-vertices}
use Rattle.tam_split.proofs.Stored.{few-classes}
use Rattle.tam_order.specs.ClassOrders.{preceding_of, behind_of}
use Rattle.tam_order.proofs.ClassNumbers.{class-inside, length-numbers, numbers-at}
use Rattle.tl0_keep.specs.Compiled.{parts_at, waits_for, entry_count, vertex_instrs}
use Rattle.tl0_keep.proofs.code.Forks.{order-in}
use Rattle.tl0_emit.specs.CodeParts.{its_code}
use Rattle.tl0_emit.specs.BlockFlows.{forks_from}
use Rattle.tl0_emit.proofs.ClassFlows.{ThreadParts, IsMade, preceding-same, made-thread}
use Rattle.tl0_emit.proofs.StandingCounts.{number-read}
use Rattle.tl0_emit.proofs.code_tables.CodeTables.class_thread.Goals as goal

pub firing_order-requires-clause-few : goal.firing_order-requires-clause-few
firing_order-requires-clause-few c =
    let t = c.args.self.now in
    let code = c.parts-parts.ensures.code in
    let f = few-vertices t.graph code.accepted t.code c.args.block code.there c.requires.in_range in
    let rows = ap (λ rs. length rs) (c.deref.ensures.value ∙ c.requires.flow.preceding) in
    let l = length-map-below (preceding_of (block_graph (its_code t) c.args.block).edges) (length (block_graph (its_code t) c.args.block).vertices) in
    omega (arith, f, rows, l)

pub firing_order-requires-clause-inside : goal.firing_order-requires-clause-inside
firing_order-requires-clause-inside c = λ x h.
    let t = c.args.self.now in
    let i = class-inside (block_graph (its_code t) c.args.block) c.parts-parts.result.now c.parts-parts.ensures.whole c.args.k x
    (ap (λ xs. has xs x) (sym c.class.ensures.value) ∙ h) in
    let rows = ap (λ rs. length rs) (c.deref.ensures.value ∙ c.requires.flow.preceding) in
    let l = length-map-below (preceding_of (block_graph (its_code t) c.args.block).edges) (length (block_graph (its_code t) c.args.block).vertices) in
    omega (arith, i, rows, l)

pub push_vertices-requires-clause-inside : goal.push_vertices-requires-clause-inside
push_vertices-requires-clause-inside c = λ x h.
    let t = c.args.self.now in
    let graph = block_graph (its_code t) c.args.block in
    let order = c.in_ok-order.ensures.value graph.edges (preceding-same graph c.deref.result.now (c.deref.ensures.value ∙ c.requires.flow.preceding)) in
    let m = order-in graph.edges c.class.result.now x (has-in (firing_order graph.edges c.class.result.now) x
    (ap (λ xs. has xs x) (sym (c.deref-2.ensures.value ∙ order)) ∙ h)) in
    class-inside graph c.parts-parts.result.now c.parts-parts.ensures.whole c.args.k x
    (ap (λ xs. has xs x) (sym c.class.ensures.value) ∙ in-has c.class.result.now x m)

pub index-requires : goal.index-requires
index-requires c =
    let t = c.args.self.now in
    let graph = block_graph (its_code t) c.args.block in
    let rows = ap (λ rs. length rs) c.requires.flow.behind in
    let l = length-map-below (behind_of graph.edges (parts_at t.parts c.args.block)) (length (parts_at t.parts c.args.block)) in
    omega (arith, rows, l, c.requires.class)

pub index-requires-2 : goal.index-requires-2
index-requires-2 c =
    let t = c.args.self.now in
    let graph = block_graph (its_code t) c.args.block in
    let rows = ap (λ rs. length rs) c.requires.flow.waits in
    let l = length-numbers (waits_for graph (parts_at t.parts c.args.block)) (length (parts_at t.parts c.args.block)) in
    omega (arith, rows, l, c.requires.class)

pub returns : goal.returns
returns c =
    let t = c.args.self.now in
    let cd = its_code t in
    let k = c.args.k in
    let graph = block_graph cd c.args.block in
    let parts = parts_at t.parts c.args.block in
    let n = length parts in
    let order = c.in_ok-order.ensures.value graph.edges (preceding-same graph c.deref.result.now (c.deref.ensures.value ∙ c.requires.flow.preceding)) in
    let class = c.class.ensures.value ∙ ap (λ ps. class_at ps k) c.parts-parts.ensures.value in
    let rows = ap (λ rs. length rs) c.requires.flow.waits in
    let l = length-numbers (waits_for graph parts) n in
    let waits = number-read c.args.flow.now.waits.items k c.index-2.result.now (omega (arith, rows, l, c.requires.class)) c.index-2.ensures
    ∙ (ap (λ xs. slice_index xs k) c.requires.flow.waits ∙ numbers-at (waits_for graph parts) n k c.requires.class) in
    let row = c.index.ensures ∙ (ap (λ rs. get_or rs k c.index.result.now) c.requires.flow.behind
    ∙ get-map-below (behind_of graph.edges parts) n k c.index.result.now c.requires.class) in
    let many = c.classes.ensures.value ∙ ap (λ ps. length ps) c.parts-parts.ensures.value in
    let few = few-classes c.parts-parts.result.now c.classes.ensures.kept in
    let instrs_of = λ (xs : List ℕ). flat_map (λ x. vertex_instrs t.graph cd t.parts (vertex_at graph x)) xs in
    let forks_in = λ (m : ℕ). forks_from c.first_thread-first.result (filter (has c.index.result.now) (below m)) in
    let vertices : c.push_vertices.new.instrs.items ≡ instrs_of c.in_ok-order.order.items =
    c.in_ok-push_vertices.ensures.ok
    ∙ (ap (λ xs. xs ++ instrs_of c.deref-2.result.now) c.new-instrs.ensures.items ∙ ap instrs_of c.deref-2.ensures.value) in
    let items : c.push_forks.new.instrs.items ≡ instrs_of c.in_ok-order.order.items ++ forks_in n =
    c.in_ok-push_forks.ensures.ok
    ∙ (ap (λ xs. xs ++ forks_in c.classes.result) vertices ∙ ap (λ m. instrs_of c.in_ok-order.order.items ++ forks_in m) many) in
    let made : ThreadParts = record {
      order = c.in_ok-order.order.items;
      row = c.index.result.now;
      first = c.first_thread-first.result;
      count = c.entry_count.result;
      instrs = c.push_forks.new.instrs.items;
    } in
    let is : IsMade t c.args.block k made = record {
      order_is = order ∙ ap (firing_order graph.edges) class;
      row_is = row;
      few = let m = ap (λ ps. length ps) c.parts-parts.ensures.value in omega (arith, few, m);
      first_is = c.first_thread-first.ensures.value;
      count_is = c.entry_count.ensures.value ∙ ap entry_count waits;
      instrs_are = items;
    } in
    record { value = c.of.ensures.value ∙ made-thread t c.args.block k made is }
