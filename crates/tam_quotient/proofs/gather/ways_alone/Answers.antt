use Rattle.std.proofs.Common.{◌≡◌, ◌∙◌, sym, ap, ap₂, arith, length, map, List, ℕ}
use Rattle.tam_word.specs.Lists.{below}
use Rattle.tam_graph.specs.Edges.{reaches}
use Rattle.tam_sets.specs.Sets.{places_where}
use Rattle.tam_quotient.specs.Tables.{column}
use Rattle.tam_quotient.specs.Spreads.{renamed}
use Rattle.tam_split.proofs.Partitioning.{length-below}
use Rattle.tam_quotient.proofs.Tabling.{length-table}
use Rattle.tam_quotient.proofs.Alone.{alone-below, names-few, inlets-named, outlets-named, alone-ways}
use Rattle.tam_quotient.proofs.gather.ways_alone.Goals as goal

pub spread-requires-clause-named : goal.spread-requires-clause-named
spread-requires-clause-named c =
    let many = ap length c.vertices.ensures.value in
    alone-below c.args.b.now c.vertices.ensures.block c.vertices.ensures.few (length c.vertices.result.now) c.edges.result.now c.deref.result.now many
    c.edges.ensures.value (c.deref.ensures.value ∙ (c.in_ok-names.ensures.value ∙ ap below many))

pub columns-requires : goal.columns-requires
columns-requires c =
    let n = ap length (c.deref-2.ensures.value ∙ c.in_ok-leads.ensures.value) ∙ length-table _ (length c.vertices.result.now) in
    let many = ap length c.vertices.ensures.value in
    record { few = omega (arith, n, many, c.vertices.ensures.few) }

pub each_way-requires-clause-few : goal.each_way-requires-clause-few
each_way-requires-clause-few c =
    let many = ap length c.vertices.ensures.value in
    let n = ap length (c.deref-6.ensures.value ∙ c.in_ok-leads.ensures.value) ∙ length-table _ (length c.vertices.result.now) in
    let named = names-few c.args.b.now c.vertices.ensures.block c.vertices.ensures.few c.deref-5.result.now
    (c.deref-5.ensures.value ∙ (c.in_ok-names.ensures.value ∙ ap below many)) in
    (omega (arith, n, many, c.vertices.ensures.few), named)

pub each_way-requires-clause-inlets : goal.each_way-requires-clause-inlets
each_way-requires-clause-inlets c =
    inlets-named c.args.b.now c.vertices.ensures.block c.vertices.ensures.few c.deref-3.result.now c.deref-5.result.now
    (c.deref-3.ensures.value ∙ c.in_ok-inlets.ensures.value)
    (c.deref-5.ensures.value ∙ (c.in_ok-names.ensures.value ∙ ap below (ap length c.vertices.ensures.value)))

pub each_way-requires-clause-outlets : goal.each_way-requires-clause-outlets
each_way-requires-clause-outlets c =
    outlets-named c.args.b.now c.vertices.ensures.block c.vertices.ensures.few c.deref-4.result.now c.deref-5.result.now
    (c.deref-4.ensures.value ∙ c.in_ok-outlets.ensures.value)
    (c.deref-5.ensures.value ∙ (c.in_ok-names.ensures.value ∙ ap below (ap length c.vertices.ensures.value)))

pub each_way-requires-clause-columns : goal.each_way-requires-clause-columns
each_way-requires-clause-columns c = c.deref-7.ensures.value ∙ (c.in_ok-columns.ensures.value
    ∙ ap (λ (ls : List (List ℕ)). map (column ls) (below (length ls))) (c.deref-2.ensures.value ∙ sym c.deref-6.ensures.value))

pub each_way-requires-clause-depends : goal.each_way-requires-clause-depends
each_way-requires-clause-depends c =
    let n = ap length (c.deref-8.ensures.value ∙ c.in_ok-columns.ensures.value) ∙ length-table (column c.deref-2.result.now) (length c.deref-2.result.now) in
    let m = ap length (c.deref-2.ensures.value ∙ c.in_ok-leads.ensures.value) ∙ length-table _ (length c.vertices.result.now) in
    let k = ap length (c.deref-5.ensures.value ∙ c.in_ok-names.ensures.value) ∙ length-below (length c.vertices.result.now) in
    omega (arith, n, m, k)

pub returns : goal.returns
returns c =
    let many = ap length c.vertices.ensures.value in
    let names : c.deref-5.result.now ≡ c.deref.result.now = c.deref-5.ensures.value ∙ sym c.deref.ensures.value in
    let spread : c.deref-6.result.now ≡ map (λ k. places_where (reaches (renamed c.deref-5.result.now c.edges.result.now) k))
    (below (length c.args.b.now.vertices)) =
    c.deref-6.ensures.value ∙ (c.in_ok-leads.ensures.value
    ∙ ap₂ (λ (xs : List ℕ) n. map (λ k. places_where (reaches (renamed xs c.edges.result.now) k)) (below n)) (sym names) many) in
    let same : c.deref-8.result.now ≡ map (column c.deref-6.result.now) (below (length c.deref-6.result.now)) = c.deref-8.ensures.value
    ∙ (c.in_ok-columns.ensures.value ∙ ap (λ (ls : List (List ℕ)). map (column ls) (below (length ls)))
    (c.deref-2.ensures.value ∙ sym c.deref-6.ensures.value)) in
    record {
      value = c.in_ok-ways.ensures.value ∙ alone-ways c.args.b.now c.vertices.ensures.block c.vertices.ensures.few
          c.edges.result.now c.deref-5.result.now c.deref-6.result.now c.edges.ensures.value
          (c.deref-5.ensures.value ∙ (c.in_ok-names.ensures.value ∙ ap below many)) spread
          c.deref-3.result.now c.deref-4.result.now c.deref-8.result.now (c.deref-3.ensures.value ∙ c.in_ok-inlets.ensures.value)
          (c.deref-4.ensures.value ∙ c.in_ok-outlets.ensures.value) same;
    }
