use Rattle.tl0_machine.proofs.threads.ialloc.Goals as goal

pub returns-clause-value : goal.returns-clause-value
returns-clause-value c = λ order printed. rw c.word-len.ensures.value at (c.post.ensures.value order printed)
