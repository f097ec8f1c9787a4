use Rattle.std.proofs.Common.{◌≡◌, ◌∙◌, sym, refl, ap, ap₂, arith, List, ℕ, [], true, get_or}
use Rattle.std.proofs.lemmas.List.{get_or_default}
use Rattle.tam_word.specs.Lists.{has}
use Rattle.tam_split.specs.Partitions.{class_of, are_apart}
use Rattle.tam_split.proofs.Classes.{partition-parts}
use Rattle.tam_split.proofs.Validity.{is_valid-valid}
use Rattle.tam_quotient.specs.declared.ways.Ways.{Ways}
use Rattle.tam_quotient.specs.Joins.{tells_apart, tells_none_between}
use Rattle.tam_part.specs.Kept.{ways_at, no_ways}
use Rattle.tam_part.proofs.Joining.{told-apart, apart-may, near-told}
use Rattle.tam_part.proofs.Separating.{apart-swap, noted-separated}
use Rattle.tam_part.proofs.merging.joins.Goals as goal

pub returns-then-has-clause-value : goal.returns-then-has-clause-value
returns-then-has-clause-value c =
    let b = c.args.b.now in
    let p = c.args.p.now in
    let parts = partition-parts b p c.requires.whole in
    let k = class_of p c.args.one in
    let l = class_of p c.args.other in
    let within = c.requires.whole.in_one c.args.other c.requires.in_range.1 in
    let there : has (get_or c.args.apart.now c.args.one []) c.args.other ≡ true =
    ap (λ (xs : List ℕ). has xs c.args.other) (get_or_default c.args.apart.now c.args.one [] c.index-apart-one.result
    (omega (arith, c.requires.in_range.0, c.requires.separated.count))) ∙ (sym c.has.ensures.value ∙ c.if-has.true) in
    let apart : are_apart b p k l ≡ true = c.requires.separated.each c.args.one c.args.other c.requires.in_range.0 c.requires.in_range.1 there in
    sym (apart-may b c.requires.block c.requires.few p parts (is_valid-valid b p c.requires.valid) k l c.requires.in_order within c.args.one
    c.args.other refl refl apart)

pub returns-then-has-2-clause-value : goal.returns-then-has-2-clause-value
returns-then-has-2-clause-value c =
    let b = c.args.b.now in
    let p = c.args.p.now in
    let parts = partition-parts b p c.requires.whole in
    let k = class_of p c.args.one in
    let l = class_of p c.args.other in
    let within = c.requires.whole.in_one c.args.other c.requires.in_range.1 in
    let there : has (get_or c.args.apart.now c.args.other []) c.args.one ≡ true =
    ap (λ (xs : List ℕ). has xs c.args.one) (get_or_default c.args.apart.now c.args.other [] c.index-apart-other.result
    (omega (arith, c.requires.in_range.1, c.requires.separated.count))) ∙ (sym c.has-2.ensures.value ∙ c.if-has-2.true) in
    let apart : are_apart b p k l ≡ true = apart-swap b p l k
    (c.requires.separated.each c.args.other c.args.one c.requires.in_range.1 c.requires.in_range.0 there) in
    sym (apart-may b c.requires.block c.requires.few p parts (is_valid-valid b p c.requires.valid) k l c.requires.in_order within c.args.one
    c.args.other refl refl apart)

pub returns-then-is_apart-clause-value : goal.returns-then-is_apart-clause-value
returns-then-is_apart-clause-value c =
    let b = c.args.b.now in
    let p = c.args.p.now in
    let parts = partition-parts b p c.requires.whole in
    let valid = is_valid-valid b p c.requires.valid in
    let k = class_of p c.args.one in
    let l = class_of p c.args.other in
    let within = c.requires.whole.in_one c.args.other c.requires.in_range.1 in
    let here : c.index-ways-one.result ≡ ways_at b p c.args.one = c.index-ways-one.is ∙ (get_or_default c.args.ways.now c.args.one
    c.index-ways-one.result no_ways (omega (arith, c.requires.in_range.0, c.requires.ways.count))
    ∙ c.requires.ways.each c.args.one c.requires.in_range.0 c.requires.least.0) in
    let there : c.index-ways-other.result ≡ ways_at b p c.args.other = c.index-ways-other.is ∙ (get_or_default c.args.ways.now c.args.other
    c.index-ways-other.result no_ways (omega (arith, c.requires.in_range.1, c.requires.ways.count))
    ∙ c.requires.ways.each c.args.other c.requires.in_range.1 c.requires.least.1) in
    let apart : are_apart b p k l ≡ true = sym (told-apart b c.requires.block c.requires.few p parts valid k l c.requires.in_order within
    c.args.one c.args.other refl refl) ∙ (ap₂ (λ (v w : Ways). tells_apart v w) (sym here) (sym there) ∙ (sym c.is_apart.ensures.value ∙ c.if-is_apart.true)) in
    sym (apart-may b c.requires.block c.requires.few p parts valid k l c.requires.in_order within c.args.one c.args.other refl refl apart)

pub returns-then-is_apart-clause-separated : goal.returns-then-is_apart-clause-separated
returns-then-is_apart-clause-separated c =
    let b = c.args.b.now in
    let p = c.args.p.now in
    let parts = partition-parts b p c.requires.whole in
    let valid = is_valid-valid b p c.requires.valid in
    let k = class_of p c.args.one in
    let l = class_of p c.args.other in
    let within = c.requires.whole.in_one c.args.other c.requires.in_range.1 in
    let here : c.index-ways-one.result ≡ ways_at b p c.args.one = c.index-ways-one.is ∙ (get_or_default c.args.ways.now c.args.one
    c.index-ways-one.result no_ways (omega (arith, c.requires.in_range.0, c.requires.ways.count))
    ∙ c.requires.ways.each c.args.one c.requires.in_range.0 c.requires.least.0) in
    let there : c.index-ways-other.result ≡ ways_at b p c.args.other = c.index-ways-other.is ∙ (get_or_default c.args.ways.now c.args.other
    c.index-ways-other.result no_ways (omega (arith, c.requires.in_range.1, c.requires.ways.count))
    ∙ c.requires.ways.each c.args.other c.requires.in_range.1 c.requires.least.1) in
    let apart : are_apart b p k l ≡ true = sym (told-apart b c.requires.block c.requires.few p parts valid k l c.requires.in_order within
    c.args.one c.args.other refl refl) ∙ (ap₂ (λ (v w : Ways). tells_apart v w) (sym here) (sym there) ∙ (sym c.is_apart.ensures.value ∙ c.if-is_apart.true)) in
    noted-separated b p c.args.apart.now c.note_apart.new.apart c.args.one c.args.other c.requires.separated c.note_apart.ensures.count
    apart c.note_apart.ensures.noted

pub returns-clause-value : goal.returns-clause-value
returns-clause-value c =
    let b = c.args.b.now in
    let p = c.args.p.now in
    let parts = partition-parts b p c.requires.whole in
    let valid = is_valid-valid b p c.requires.valid in
    let k = class_of p c.args.one in
    let l = class_of p c.args.other in
    let within = c.requires.whole.in_one c.args.other c.requires.in_range.1 in
    let here : c.index-ways-one.result ≡ ways_at b p c.args.one = c.index-ways-one.is ∙ (get_or_default c.args.ways.now c.args.one
    c.index-ways-one.result no_ways (omega (arith, c.requires.in_range.0, c.requires.ways.count))
    ∙ c.requires.ways.each c.args.one c.requires.in_range.0 c.requires.least.0) in
    let there : c.index-ways-other.result ≡ ways_at b p c.args.other = c.index-ways-other.is ∙ (get_or_default c.args.ways.now c.args.other
    c.index-ways-other.result no_ways (omega (arith, c.requires.in_range.1, c.requires.ways.count))
    ∙ c.requires.ways.each c.args.other c.requires.in_range.1 c.requires.least.1) in
    let near = sym (told-apart b c.requires.block c.requires.few p parts valid k l c.requires.in_order within
    c.args.one c.args.other refl refl) ∙ (ap₂ (λ (v w : Ways). tells_apart v w) (sym here) (sym there)
    ∙ (sym c.is_apart.ensures.value ∙ c.if-is_apart.false)) in
    c.has_none_between.ensures.value ∙ (ap₂ (λ (v w : Ways). tells_none_between v w) here there
    ∙ near-told b c.requires.block c.requires.few p parts valid k l c.requires.in_order within c.args.one c.args.other refl refl near)
