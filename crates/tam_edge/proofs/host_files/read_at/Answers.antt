use Rattle.tam_edge.proofs.EntriesLemmas.{value_by-first, value_by-replaced, value_by-replaced_other}
use Rattle.tam_edge.proofs.host_files.read_at.Goals as goal

pub returns-clause-counted : goal.returns-clause-counted
returns-clause-counted g c =
    let entry = c.index-opened-i.result in
    rw (
      value_by-first (λ o. o.faults) 0 c.args.name.now c.args.opened.now c.args.i entry c.requires.named,
      value_by-replaced (λ o. o.faults) 0 c.args.name.now c.args.opened.now c.args.i entry c.read_opened.new.opened c.requires.named,
    )
    c.read_opened.ensures.counted

pub returns-clause-others : goal.returns-clause-others
returns-clause-others g c = λ other ne.
    value_by-replaced_other (λ o. o.faults) 0 c.args.name.now other ne c.args.opened.now c.args.i c.index-opened-i.result c.read_opened.new.opened
    c.requires.named
