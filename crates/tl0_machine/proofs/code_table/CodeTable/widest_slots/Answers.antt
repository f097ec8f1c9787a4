use Rattle.std.proofs.Common.{◌∙◌, ◌≤◌, ap, map, subst, sym, List}
use Rattle.tl0_code.specs.ThreadCode.{CodeText, Program, greatest}
use Rattle.tl0_machine.proofs.CheckedCode.{first-slots}
use Rattle.tl0_machine.proofs.code_table.CodeTable.widest_slots.Goals as goal

pub returns-clause-first_slots : goal.returns-clause-first_slots
returns-clause-first_slots c =
    let p = c.self.inside.code in
    let codes = c.codes.ensures.value ∙ ap (λ (q : Program). q.codes) c.program.ensures.value in
    subst (λ n. 2 ≤ n) (sym (c.most_slots.ensures.value ∙ ap (λ (cs : List CodeText). greatest (map (λ d. d.slots) cs)) codes))
    (first-slots p c.program.ensures.checked)
