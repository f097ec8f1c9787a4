use Rattle.tl0_machine.proofs.threads.send_word.Goals as goal

pub returns-clause-value : goal.returns-clause-value
returns-clause-value c = λ order printed. rw (c.word-frame.ensures.value, c.word-word.ensures.value) at (c.post.ensures.value order printed)
