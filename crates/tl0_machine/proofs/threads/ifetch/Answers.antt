use Rattle.tl0_machine.proofs.threads.ifetch.Goals as goal

pub returns-clause-value : goal.returns-clause-value
returns-clause-value c = λ order printed.
    rw (c.word-array.ensures.value, c.word-index.ensures.value, c.site_at-site.ensures.value) at (c.post.ensures.value order printed)
