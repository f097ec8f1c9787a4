-- Where its head has no fault, the faults of a thread are those of its instructions.
use Rattle.std.proofs.Common.{sym, ap, ◌∙◌}
use Rattle.std.specs.Prelude.{option_to_list}
use Rattle.tl0_check.proofs.CodeLines.{thread-faults}
use Rattle.tl0_check.proofs.checker.check_thread.Goals as goal

pub returns-clause-ok : goal.returns-clause-ok
returns-clause-ok c =
    let head = sym (ap option_to_list c.in_ok-check_line.ensures.ok) ∙ (rw c.count.ensures.value at c.count_fault.ensures.value) in
    let same = thread-faults c.args.program.now c.args.own.now c.args.code c.args.place c.args.thread.now head in
    rw (same, ← c.instrs.ensures.value) c.check_instrs.ensures.ok

pub returns-clause-refused : goal.returns-clause-refused
returns-clause-refused c =
    let head = sym (ap option_to_list c.in_ok-check_line.ensures.ok) ∙ (rw c.count.ensures.value at c.count_fault.ensures.value) in
    let same = thread-faults c.args.program.now c.args.own.now c.args.code c.args.place c.args.thread.now head in
    rw (same, ← c.instrs.ensures.value) c.check_instrs.ensures.refused
