use Rattle.tl0_machine.proofs.delivering.deliver.Goals as goal

pub returns-in-Word-clause-value : goal.returns-in-Word-clause-value
returns-in-Word-clause-value c = λ order printed are. rw c.in-Word.is (c.deliver_word.ensures.value c.args.limits.now order printed are)

pub returns-in-Frame-clause-value : goal.returns-in-Frame-clause-value
returns-in-Frame-clause-value c = λ order printed are. rw c.in-Frame.is (c.begin_for.ensures.value order printed are)

pub returns-in-Cells-clause-value : goal.returns-in-Cells-clause-value
returns-in-Cells-clause-value c = λ order printed are. rw c.in-Cells.is (c.make_cells.ensures.value c.args.table.now order printed are)

pub returns-in-Fetch-clause-value : goal.returns-in-Fetch-clause-value
returns-in-Fetch-clause-value c = λ order printed are. rw c.in-Fetch.is (c.fetch.ensures.value order printed are)

pub returns-in-Store-clause-value : goal.returns-in-Store-clause-value
returns-in-Store-clause-value c = λ order printed are. rw c.in-Store.is (c.store.ensures.value order printed are)
