use Rattle.std.proofs.Common.{◌<◌, ℕ, ◌∙◌, sym, ap, arith, length, take, get_or}
use Rattle.tam_graph.specs.Edges.{reaches}
use Rattle.tam_sets.specs.Sets.{places_where}
use Rattle.tam_quotient.specs.Tables.{set_at}
use Rattle.tam_quotient.specs.Spreads.{renamed}
use Rattle.tam_quotient.proofs.Tabling.{renamed-more, grown-more}
use Rattle.tam_quotient.proofs.spread.grow_by_all.Goals as goal

pub loop-from-preserved : goal.loop-from-preserved
loop-from-preserved c k h =
    let i = c.loop-from.from-index in
    let edge : ℕ × ℕ = get_or c.args.edges.now i (0, 0) in
    let es = renamed c.args.names.now (take i c.args.edges.now) in
    let from : ℕ = get_or c.args.names.now edge.0 0 in
    let to : ℕ = get_or c.args.names.now edge.1 0 in
    let ends = c.requires.named.ends i c.loop-from-test.true in
    let n = c.loop-from.auto.sets in
    let low : from < length c.args.sets.now = c.requires.named.names_below edge.0 ends.0 in
    let high : to < length c.args.sets.now = c.requires.named.names_below edge.1 ends.1 in
    let small : from < 512 = omega (arith, low, c.requires.few) in
    let there : k < length c.loop-from.sets = omega (arith, h, c.grow.auto.sets) in
    let target : to < length c.loop-from.sets = omega (arith, high, n) in
    let grew = grown-more es from to k (set_at c.loop-from.sets to) (set_at c.loop-from.sets k) small (c.loop-from.invariant k there)
    (c.loop-from.invariant to target) in
    c.grow.ensures.value k there ∙ (grew ∙ ap (λ ds. places_where (reaches ds k))
    (sym (renamed-more c.args.names.now c.args.edges.now i c.loop-from-test.true)))
