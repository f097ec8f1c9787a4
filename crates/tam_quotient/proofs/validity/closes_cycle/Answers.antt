use Rattle.std.proofs.Common.{◌≡◌, ◌<◌, ℕ, ◌∙◌, refl, sym, ap, ap₂, arith, length, false, ◌==◌, get_or}
use Rattle.tam_word.specs.Lists.{has}
use Rattle.tam_word.proofs.Tests.{differs-number}
use Rattle.tam_split.specs.Partitions.{class_of, leads_to}
use Rattle.tam_sets.proofs.PlacesWhere.{has-where}
use Rattle.tam_quotient.specs.declared.ways.Ways.{Ways}
use Rattle.tam_quotient.specs.Quotients.{closes_cycle}
use Rattle.tam_quotient.proofs.Surroundings.{way-read, ways-count, edge-classes}
use Rattle.tam_quotient.proofs.validity.closes_cycle.Goals as goal

pub class_of-start-requires : goal.class_of-start-requires
class_of-start-requires c =
    record {
      there = (edge-classes c.args.b.now c.edges.ensures.block c.args.p.now c.requires.whole c.edges.result.now c.args.edge
          c.edges.ensures.value c.requires.in_range).0;
    }

pub class_of-end-requires : goal.class_of-end-requires
class_of-end-requires c =
    record {
      there = (edge-classes c.args.b.now c.edges.ensures.block c.args.p.now c.requires.whole c.edges.result.now c.args.edge
          c.edges.ensures.value c.requires.in_range).1;
    }

pub bounds-ways-end : goal.bounds-ways-end
bounds-ways-end c =
    let n = ways-count c.args.b.now c.args.p.now c.args.ways.now c.requires.ways in
    let low = (edge-classes c.args.b.now c.edges.ensures.block c.args.p.now c.requires.whole c.edges.result.now c.args.edge c.edges.ensures.value
    c.requires.in_range).1 in
    omega (arith, n, low, c.class_of-end.ensures.value)

pub returns-then-start-end : goal.returns-then-start-end
returns-then-start-end c =
    let b = c.args.b.now in
    let p = c.args.p.now in
    let edge : ℕ × ℕ = get_or c.edges.result.now c.args.edge (0, 0) in
    let low = (edge-classes b c.edges.ensures.block p c.requires.whole c.edges.result.now c.args.edge c.edges.ensures.value c.requires.in_range).1 in
    let start = c.class_of-start.ensures.value in
    let end = c.class_of-end.ensures.value in
    let there : c.class_of-end.result < length p = omega (arith, low, end) in
    let way = way-read b p c.args.ways.now c.class_of-end.result c.index-ways-end.result c.requires.ways there c.index-ways-end.is in
    let ahead = ap (λ (w : Ways). w.ahead) (sym c.index-ways-end.is ∙ way) in
    let leads : c.has.result ≡ leads_to b.edges p c.class_of-end.result c.class_of-start.result =
    c.has.ensures.value ∙ (ap (λ xs. has xs c.class_of-start.result) ahead ∙ has-where (leads_to b.edges p c.class_of-end.result)
    c.class_of-start.result c.class_of-start.ensures.small) in
    let named : leads_to b.edges p c.class_of-end.result c.class_of-start.result ≡ leads_to b.edges p (class_of p edge.1) (class_of p edge.0) =
    ap₂ (leads_to b.edges p) end start in
    let other : (class_of p edge.0 == class_of p edge.1) ≡ false = differs-number (class_of p edge.0) (class_of p edge.1)
    (λ e. c.if-start-end.true (start ∙ (e ∙ sym end))) in
    let closes : closes_cycle b p edge ≡ leads_to b.edges p (class_of p edge.1) (class_of p edge.0) = rw (closes_cycle, other) refl in
    record { value = leads ∙ (named ∙ (sym closes ∙ ap (λ es. closes_cycle b p (get_or es c.args.edge (0, 0))) c.edges.ensures.value)) }
