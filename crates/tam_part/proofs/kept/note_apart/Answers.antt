use Rattle.std.proofs.Common.{◌∙◌, ap, [], arith, set}
use Rattle.std.proofs.lemmas.List.{get_or_default}
use Rattle.std.proofs.Math.ListN.{length-set}
use Rattle.tam_sets.specs.Sets.{with_place}
use Rattle.tam_part.proofs.Separating.{noted-cases}
use Rattle.tam_part.proofs.kept.note_apart.Goals as goal

pub returns-clause-noted : goal.returns-clause-noted
returns-clause-noted c =
    let first = c.requires.in_range.0 in
    let second = c.requires.in_range.1 in
    noted-cases c.args.apart.now c.args.one c.args.other c.insert.new.self c.insert-2.new.self first second
    (c.insert.ensures.value ∙ ap (with_place c.args.other) (get_or_default c.args.apart.now c.args.one c.index-apart-one.result [] first))
    (c.insert-2.ensures.value ∙ ap (with_place c.args.one) (get_or_default (set c.args.apart.now c.args.one c.insert.new.self) c.args.other
    c.index-apart-other.result [] (omega (arith, second, length-set c.args.apart.now c.args.one c.insert.new.self))))
