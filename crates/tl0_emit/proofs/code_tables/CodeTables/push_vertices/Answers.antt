use Rattle.std.proofs.Common.{ℕ, ◌≡◌, ◌<◌, ◌+◌, ◌++◌, flat_map, drop, length, get_or, ap, ◌∙◌, arith}
use Rattle.tam_split.specs.Blocks.{block_graph, vertex_at}
use Rattle.tam_order.proofs.Rows.{has-at}
use Rattle.tl0_keep.specs.Compiled.{vertex_instrs}
use Rattle.tl0_emit.specs.CodeParts.{its_code}
use Rattle.tl0_emit.proofs.ClassFlows.{vertex-low, vertex-got, flat-more}
use Rattle.tl0_emit.proofs.code_tables.CodeTables.push_vertices.Goals as goal

pub bounds-vertices-place : goal.bounds-vertices-place
bounds-vertices-place c =
    let there : c.loop-place.place-index < length c.args.order.now = omega arith in
    let i = c.requires.inside _ (has-at c.args.order.now c.loop-place.place-index there) in
    let m = ap (λ vs. length vs) c.vertices-vertices.ensures.value in
    let n = ap (λ b. length b.vertices) c.block.ensures.value in
    omega (arith, i, m, n)

pub push_vertex-requires : goal.push_vertex-requires
push_vertex-requires c =
    let cd = its_code c.args.self.now in
    let there : c.loop-place.place-index < length c.args.order.now = omega arith in
    let x = get_or c.args.order.now c.loop-place.place-index 0 in
    let i = c.requires.inside x (has-at c.args.order.now c.loop-place.place-index there) in
    let same = c.vertices-vertices.ensures.value ∙ ap (λ b. b.vertices) c.block.ensures.value in
    record { in_range = vertex-low cd c.args.block x _ i (vertex-got (block_graph cd c.args.block) c.vertices-vertices.result.now same x _ i) }

pub loop-place-preserved : goal.loop-place-preserved
loop-place-preserved c =
    let t = c.args.self.now in
    let cd = its_code t in
    let graph = block_graph cd c.args.block in
    let there : c.loop-place.place-index < length c.args.order.now = omega arith in
    let x = get_or c.args.order.now c.loop-place.place-index 0 in
    let i = c.requires.inside x (has-at c.args.order.now c.loop-place.place-index there) in
    let same = c.vertices-vertices.ensures.value ∙ ap (λ b. b.vertices) c.block.ensures.value in
    let put : c.push_vertex.new.instrs.items ≡ c.loop-place.instrs.items ++ vertex_instrs t.graph cd t.parts (vertex_at graph x) =
    c.in_ok-push_vertex.ensures.ok
    ∙ ap (λ v. c.loop-place.instrs.items ++ vertex_instrs t.graph cd t.parts v) (vertex-got graph c.vertices-vertices.result.now same x _ i) in
    let instrs_of = λ (y : ℕ). vertex_instrs t.graph cd t.parts (vertex_at graph y) in
    ap (λ is. is ++ flat_map instrs_of (drop (c.loop-place.place-index + 1) c.args.order.now)) put
    ∙ (flat-more instrs_of c.loop-place.instrs.items c.args.order.now c.loop-place.place-index there ∙ c.loop-place.invariant)
