use Rattle.std.proofs.Common.{◌∙◌}
use Rattle.tam_edge.proofs.EntriesLemmas.{value_by-first, value_by-replaced, value_by-replaced_other}
use Rattle.tam_edge.proofs.mem_files.raise.Goals as goal

pub returns-clause-counted : goal.returns-clause-counted
returns-clause-counted c =
    let fault = c.index-faults-i.result in
    let before = value_by-first (λ n. n) 0 c.args.name.now c.args.faults.now c.args.i fault c.requires.named in
    value_by-replaced (λ n. n) 0 c.args.name.now c.args.faults.now c.args.i fault c.next_count-fault.result c.requires.named
    ∙ rw before c.next_count-fault.ensures.value

pub returns-clause-later : goal.returns-clause-later
returns-clause-later c =
    let fault = c.index-faults-i.result in
    rw (
      value_by-first (λ n. n) 0 c.args.name.now c.args.faults.now c.args.i fault c.requires.named,
      value_by-replaced (λ n. n) 0 c.args.name.now c.args.faults.now c.args.i fault c.next_count-fault.result c.requires.named,
    )
    c.next_count-fault.ensures.later

pub returns-clause-others : goal.returns-clause-others
returns-clause-others c = λ other ne.
    value_by-replaced_other (λ n. n) 0 c.args.name.now other ne c.args.faults.now c.args.i c.index-faults-i.result c.next_count-fault.result c.requires.named
