use Rattle.std.proofs.Common.{refl}
use Rattle.std.specs.Prelude.{is_ok, None}
use Rattle.tam_edge.proofs.EntriesLemmas.{value_by-push_if}
use Rattle.tam_edge.proofs.host_files.add.Goals as goal

pub returns-clause-kept : goal.returns-clause-kept
returns-clause-kept g c = λ other.
    rw c.push.ensures.items
    (value_by-push_if (λ o. o.faults) 0 other (is_ok c.push.result) c.args.opened.now.items (c.in_ok-name.name, record { file = None; faults = 0 }) refl)
