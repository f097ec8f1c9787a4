use Rattle.std.proofs.Common.{◌≡◌, ◌<◌, ◌∙◌, refl, sym, ap, ap₂, arith, length, true}
use Rattle.tam_split.specs.Blocks.{dependences, vertex_at}
use Rattle.tam_sets.specs.Sets.{is_within}
use Rattle.tam_quotient.specs.declared.ways.Ways.{Ways}
use Rattle.tam_quotient.specs.Quotients.{keeps_outlet, entering_of}
use Rattle.tam_quotient.proofs.Tabling.{length-table}
use Rattle.tam_quotient.proofs.Surroundings.{way-read, ways-count, depends-read}
use Rattle.tam_quotient.proofs.validity.keeps.Goals as goal

pub bounds-ways-class : goal.bounds-ways-class
bounds-ways-class c =
    let n = ways-count c.args.b.now c.args.p.now c.args.ways.now c.requires.ways in
    let low = c.requires.whole.in_one c.args.place c.requires.in_range in
    omega (arith, n, low, c.class_of-class.ensures.value)

pub bounds-depends-place : goal.bounds-depends-place
bounds-depends-place c =
    let n = ap length c.requires.depends ∙ length-table (dependences c.args.b.now) (length c.args.b.now.vertices) in
    omega (arith, n, c.requires.in_range)

pub returns : goal.returns
returns c =
    let b = c.args.b.now in
    let p = c.args.p.now in
    let low = c.requires.whole.in_one c.args.place c.requires.in_range in
    let class = c.class_of-class.ensures.value in
    let there : c.class_of-class.result < length p = omega (arith, low, class) in
    let way = way-read b p c.args.ways.now c.class_of-class.result c.index-ways-class.result c.requires.ways there c.index-ways-class.is in
    let enters = ap (λ (w : Ways). w.entering) (sym c.index-ways-class.is ∙ way) ∙ ap (entering_of b p) class in
    let needs = depends-read b c.args.depends.now c.args.place c.index-depends-place.result c.requires.depends c.requires.in_range c.index-depends-place.is in
    let outlet : (vertex_at b c.args.place).outlet ≡ true = sym c.is_outlet.ensures.value ∙ c.if-not-is_outlet.false in
    record { value = c.within.ensures.value ∙ (ap₂ is_within enters needs ∙ rw (keeps_outlet, outlet) refl) }
