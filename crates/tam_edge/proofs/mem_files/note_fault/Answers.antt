use Rattle.std.proofs.Common.{refl, arith}
use Rattle.tam_edge.specs.Entries.{NoneNamed}
use Rattle.tam_edge.proofs.EntriesLemmas.{value_by-push, value_by-push_other, value_by-none}
use Rattle.tam_edge.proofs.mem_files.note_fault.Goals as goal

pub returns-in_ok-push-in-None-clause-counted : goal.returns-in_ok-push-in-None-clause-counted
returns-in_ok-push-in-None-clause-counted c =
    let none : NoneNamed c.args.faults.now.items c.args.name.now = rw c.deref.ensures.value at c.in-None.ensures.absent in
    let name = c.in_ok-from_str-in-None in
    rw (
      c.in_ok-push-in-None.ensures.items,
      value_by-push (λ n. n) 0 c.args.name.now c.args.faults.now.items (name.field-0, 1) none name.ensures.ok,
      value_by-none (λ n. n) 0 c.args.name.now c.args.faults.now.items none,
    )
    refl

pub returns-in_ok-push-in-None-clause-later : goal.returns-in_ok-push-in-None-clause-later
returns-in_ok-push-in-None-clause-later c =
    let none : NoneNamed c.args.faults.now.items c.args.name.now = rw c.deref.ensures.value at c.in-None.ensures.absent in
    rw (value_by-none (λ n. n) 0 c.args.name.now c.args.faults.now.items none) (omega arith)

pub returns-in_ok-push-in-None-clause-others : goal.returns-in_ok-push-in-None-clause-others
returns-in_ok-push-in-None-clause-others c = λ other ne.
    let name = c.in_ok-from_str-in-None in
    rw c.in_ok-push-in-None.ensures.items
    (value_by-push_other (λ n. n) 0 c.args.name.now other ne c.args.faults.now.items (name.field-0, 1) name.ensures.ok)
