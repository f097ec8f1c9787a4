use Rattle.std.proofs.Common.{sym, ap}
use Rattle.tl0_code.specs.Machines.{Fine}
use Rattle.tl0_machine.proofs.threads.carry_out.Goals as goal

pub returns-in-Imm-clause-value : goal.returns-in-Imm-clause-value
returns-in-Imm-clause-value c = λ order printed. rw c.in-Imm.is (ap Fine (sym (c.put.ensures.value order printed)))

pub returns-in-Mov-clause-value : goal.returns-in-Mov-clause-value
returns-in-Mov-clause-value c = λ order printed. rw c.in-Mov.is (ap Fine (sym (rw c.word-word.ensures.value at (c.put-in-Mov.ensures.value order printed))))

pub returns-in-Op-clause-value : goal.returns-in-Op-clause-value
returns-in-Op-clause-value c = λ order printed.
    let word = rw (c.word-left.ensures.value, c.word-right.ensures.value) at c.apply-word.ensures.value in
    rw c.in-Op.is (ap Fine (sym (rw word at (c.put-in-Op.ensures.value order printed))))

pub returns-in-Fork-clause-value : goal.returns-in-Fork-clause-value
returns-in-Fork-clause-value c = λ order printed. rw c.in-Fork.is (c.spend.ensures.value order printed)

pub returns-in-Switch-clause-value : goal.returns-in-Switch-clause-value
returns-in-Switch-clause-value c = λ order printed. rw c.in-Switch.is (c.switch.ensures.value order printed)

pub returns-in-Falloc-clause-value : goal.returns-in-Falloc-clause-value
returns-in-Falloc-clause-value c = λ order printed. rw c.in-Falloc.is (c.post.ensures.value order printed)

pub returns-in-Send-clause-value : goal.returns-in-Send-clause-value
returns-in-Send-clause-value c = λ order printed. rw c.in-Send.is (c.send_word.ensures.value order printed)

pub returns-in-Ret-clause-value : goal.returns-in-Ret-clause-value
returns-in-Ret-clause-value c = λ order printed. rw c.in-Ret.is (c.ret.ensures.value order printed)

pub returns-in-Ialloc-clause-value : goal.returns-in-Ialloc-clause-value
returns-in-Ialloc-clause-value c = λ order printed. rw c.in-Ialloc.is (c.ialloc.ensures.value order printed)

pub returns-in-Ifetch-clause-value : goal.returns-in-Ifetch-clause-value
returns-in-Ifetch-clause-value c = λ order printed. rw c.in-Ifetch.is (c.ifetch.ensures.value order printed)

pub returns-in-Istore-clause-value : goal.returns-in-Istore-clause-value
returns-in-Istore-clause-value c = λ order printed. rw c.in-Istore.is (c.istore.ensures.value order printed)

pub returns-in-Skip-clause-value : goal.returns-in-Skip-clause-value
returns-in-Skip-clause-value c = λ order printed. rw c.in-Skip.is (c.skip.ensures.value order printed)
