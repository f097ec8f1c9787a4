use Rattle.std.proofs.Common.{◌∙◌, sym, ap, arith, length, map, List, ℕ}
use Rattle.tam_word.specs.Lists.{below}
use Rattle.tam_quotient.specs.Tables.{column}
use Rattle.tam_quotient.proofs.Tabling.{length-table}
use Rattle.tam_quotient.proofs.Surroundings.{few-classes, are_below, are_leads, leads-count, classes-count, depends-count, inlets_there}
use Rattle.tam_quotient.proofs.Surroundings.{outlets_there, are_ways}
use Rattle.tam_quotient.proofs.Surroundings.{depends-inlets}
use Rattle.tam_quotient.proofs.gather.quotient.Goals as goal

pub spread-requires-clause-few : goal.spread-requires-clause-few
spread-requires-clause-few c = let l = few-classes c.args.p.now c.classes.ensures.kept in omega (arith, l, c.classes.ensures.value)

pub spread-requires-clause-named : goal.spread-requires-clause-named
spread-requires-clause-named c =
    are_below c.args.b.now c.edges.ensures.block c.args.p.now c.requires.whole (few-classes c.args.p.now c.classes.ensures.kept)
    c.classes.result c.edges.result.now c.deref.result.now c.classes.ensures.value c.edges.ensures.value (c.deref.ensures.value ∙ c.in_ok-classes.ensures.value)

pub columns-requires : goal.columns-requires
columns-requires c =
    let least = few-classes c.args.p.now c.classes.ensures.kept in
    let sets = are_leads c.args.b.now c.edges.ensures.block c.args.p.now c.requires.whole least
    c.classes.result c.edges.result.now c.deref.result.now c.in_ok-leads.leads.items c.classes.ensures.value c.edges.ensures.value
    (c.deref.ensures.value ∙ c.in_ok-classes.ensures.value) c.in_ok-leads.ensures.value in
    let n = leads-count c.args.b.now c.edges.ensures.block c.args.p.now c.requires.whole least c.deref-2.result.now (c.deref-2.ensures.value ∙ sets) in
    record { few = omega (arith, n, least) }

pub each_way-requires-clause-few : goal.each_way-requires-clause-few
each_way-requires-clause-few c =
    let least = few-classes c.args.p.now c.classes.ensures.kept in
    let sets = are_leads c.args.b.now c.edges.ensures.block c.args.p.now c.requires.whole least
    c.classes.result c.edges.result.now c.deref.result.now c.in_ok-leads.leads.items c.classes.ensures.value c.edges.ensures.value
    (c.deref.ensures.value ∙ c.in_ok-classes.ensures.value) c.in_ok-leads.ensures.value in
    let n = leads-count c.args.b.now c.edges.ensures.block c.args.p.now c.requires.whole least c.deref-6.result.now (c.deref-6.ensures.value ∙ sets) in
    let m = classes-count c.args.b.now c.edges.ensures.block c.args.p.now c.requires.whole least
    c.deref-5.result.now (c.deref-5.ensures.value ∙ c.in_ok-classes.ensures.value) in
    (omega (arith, n, least), omega (arith, m, c.classes_of.ensures.few))

pub each_way-requires-clause-inlets : goal.each_way-requires-clause-inlets
each_way-requires-clause-inlets c =
    inlets_there c.args.b.now c.edges.ensures.block c.args.p.now c.requires.whole (few-classes c.args.p.now c.classes.ensures.kept)
    c.deref-3.result.now c.deref-5.result.now (c.deref-3.ensures.value ∙ c.in_ok-inlets.ensures.value) (c.deref-5.ensures.value ∙ c.in_ok-classes.ensures.value)

pub each_way-requires-clause-outlets : goal.each_way-requires-clause-outlets
each_way-requires-clause-outlets c =
    outlets_there c.args.b.now c.edges.ensures.block c.args.p.now c.requires.whole (few-classes c.args.p.now c.classes.ensures.kept)
    c.deref-4.result.now c.deref-5.result.now (c.deref-4.ensures.value ∙ c.in_ok-outlets.ensures.value)
    (c.deref-5.ensures.value ∙ c.in_ok-classes.ensures.value)

pub each_way-requires-clause-columns : goal.each_way-requires-clause-columns
each_way-requires-clause-columns c = c.deref-7.ensures.value ∙ (c.in_ok-columns.ensures.value
    ∙ ap (λ (ls : List (List ℕ)). map (column ls) (below (length ls))) (c.deref-2.ensures.value ∙ sym c.deref-6.ensures.value))

pub each_way-requires-clause-depends : goal.each_way-requires-clause-depends
each_way-requires-clause-depends c =
    let least = few-classes c.args.p.now c.classes.ensures.kept in
    let m = classes-count c.args.b.now c.edges.ensures.block c.args.p.now c.requires.whole least
    c.deref-5.result.now (c.deref-5.ensures.value ∙ c.in_ok-classes.ensures.value) in
    let n = depends-count c.args.b.now c.edges.ensures.block c.args.p.now c.requires.whole least c.args.depends.now c.requires.depends in
    omega (arith, m, n)

pub returns-clause-value : goal.returns-clause-value
returns-clause-value c =
    let least = few-classes c.args.p.now c.classes.ensures.kept in
    let sets = are_leads c.args.b.now c.edges.ensures.block c.args.p.now c.requires.whole least
    c.classes.result c.edges.result.now c.deref.result.now c.in_ok-leads.leads.items c.classes.ensures.value c.edges.ensures.value
    (c.deref.ensures.value ∙ c.in_ok-classes.ensures.value) c.in_ok-leads.ensures.value in
    c.in_ok-ways.ensures.value ∙ are_ways c.args.b.now c.edges.ensures.block c.args.p.now c.requires.whole least
    c.deref-3.result.now c.deref-4.result.now c.deref-5.result.now c.deref-6.result.now c.args.depends.now
    (c.deref-3.ensures.value ∙ c.in_ok-inlets.ensures.value) (c.deref-4.ensures.value ∙ c.in_ok-outlets.ensures.value)
    (c.deref-5.ensures.value ∙ c.in_ok-classes.ensures.value) (c.deref-6.ensures.value ∙ sets)
    (depends-inlets c.args.b.now c.edges.ensures.block c.args.p.now c.requires.whole least c.args.depends.now c.requires.depends)

pub returns-clause-few : goal.returns-clause-few
returns-clause-few c =
    let least = few-classes c.args.p.now c.classes.ensures.kept in
    let sets = are_leads c.args.b.now c.edges.ensures.block c.args.p.now c.requires.whole least
    c.classes.result c.edges.result.now c.deref.result.now c.in_ok-leads.leads.items c.classes.ensures.value c.edges.ensures.value
    (c.deref.ensures.value ∙ c.in_ok-classes.ensures.value) c.in_ok-leads.ensures.value in
    let n = leads-count c.args.b.now c.edges.ensures.block c.args.p.now c.requires.whole least c.deref-6.result.now (c.deref-6.ensures.value ∙ sets) in
    let m = ap length c.in_ok-ways.ensures.value ∙ length-table _ (length c.deref-6.result.now) in
    omega (arith, n, m, least)
