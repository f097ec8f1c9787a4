use Rattle.tl0_machine.proofs.threads.istore.Goals as goal

pub returns-clause-value : goal.returns-clause-value
returns-clause-value c = λ order printed.
    rw (c.word-array.ensures.value, c.word-index.ensures.value, c.site_at-site.ensures.value, c.word-word.ensures.value) at (c.post.ensures.value order printed)
