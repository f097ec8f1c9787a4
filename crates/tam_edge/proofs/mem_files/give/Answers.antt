use Rattle.std.proofs.Common.{sym, ◌∙◌, ap, List, ℕ, [], ◌++◌, take}
use Rattle.std.proofs.lemmas.List.{length-reverse}
use Rattle.tam_edge.specs.Held.{reversed_items}
use Rattle.tam_edge.proofs.EntriesLemmas.{value_by-first, value_by-replaced, value_by-replaced_other, names-replaced, named_somewhere}
use Rattle.tam_edge.proofs.mem_files.give.Goals as goal

pub returns-in-Some-clause-fits : goal.returns-in-Some-clause-fits
returns-in-Some-clause-fits c =
    let before = value_by-first reversed_items [] c.args.name.now c.args.files.now c.in-Some.i c.index-files-i.result c.in-Some.ensures.found in
    rw (before, length-reverse) c.take_next.ensures.fits

pub returns-in-Some-clause-given : goal.returns-in-Some-clause-given
returns-in-Some-clause-given c =
    let file = c.index-files-i.result in
    let before = value_by-first reversed_items [] c.args.name.now c.args.files.now c.in-Some.i file c.in-Some.ensures.found in
    let after = value_by-replaced reversed_items [] c.args.name.now c.args.files.now c.in-Some.i file c.take_next.new.bytes c.in-Some.ensures.found in
    before ∙ c.take_next.ensures.given ∙ ap (λ (l : List ℕ). take c.take_next.result c.take_next.new.piece ++ l) (sym after)

pub returns-in-Some-clause-others : goal.returns-in-Some-clause-others
returns-in-Some-clause-others c = λ other ne.
    let found = c.in-Some.ensures.found in
    value_by-replaced_other reversed_items [] c.args.name.now other ne c.args.files.now c.in-Some.i c.index-files-i.result c.take_next.new.bytes found

pub returns-in-Some-clause-same_names : goal.returns-in-Some-clause-same_names
returns-in-Some-clause-same_names c =
    names-replaced c.args.files.now c.in-Some.i c.index-files-i.result c.take_next.new.bytes c.in-Some.ensures.found.inside

pub returns-in-Some-clause-some : goal.returns-in-Some-clause-some
returns-in-Some-clause-some c = named_somewhere c.args.name.now c.args.files.now c.in-Some.i c.in-Some.ensures.found
