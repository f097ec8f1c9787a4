use Rattle.std.proofs.Common.{◌<◌, ◌^◌, ◌∙◌, flat_map, length, take, refl, sym, ap, subst, arith}
use Rattle.tl0_code.specs.CodeTexts.{text_lines}
use Rattle.tam.proofs.CodeLines.{line-fits}
use Rattle.tam.proofs.code_line.code_line.Goals as goal

pub lines_of-requires : goal.lines_of-requires
lines_of-requires c =
    let p = c.args.program.now in
    let before = length (flat_map text_lines (take c.args.code p.codes)) in
    let fits = line-fits p c.args.code c.args.place before c.requires.short c.requires.there c.requires.in_code refl in
    record { short = subst (λ cs. length (flat_map text_lines (take c.args.code cs)) < 2 ^ 32) (sym c.codes.ensures.value) (omega (arith, fits)) }

pub overflow_add-result : goal.overflow_add-result
overflow_add-result c =
    let p = c.args.program.now in
    let is = c.lines_of.ensures.value ∙ ap (λ cs. length (flat_map text_lines (take c.args.code cs))) c.codes.ensures.value in
    let fits = line-fits p c.args.code c.args.place c.lines_of.result c.requires.short c.requires.there c.requires.in_code is in
    omega (arith, fits)

pub overflow_add-result-2 : goal.overflow_add-result-2
overflow_add-result-2 c =
    let p = c.args.program.now in
    let is = c.lines_of.ensures.value ∙ ap (λ cs. length (flat_map text_lines (take c.args.code cs))) c.codes.ensures.value in
    let fits = line-fits p c.args.code c.args.place c.lines_of.result c.requires.short c.requires.there c.requires.in_code is in
    omega (arith, fits)
