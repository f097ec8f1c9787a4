use Rattle.std.proofs.Common.{sym, subst}
use Rattle.rv_host.specs.LiveFrames.{Numbers, AreLive}
use Rattle.rv_host.proofs.delivering.deliver.Goals as goal

pub returns-in-Word-clause-value : goal.returns-in-Word-clause-value
returns-in-Word-clause-value c = λ image order printed live results marked are. record {
  live = live;
  are_live = subst (λ (n : Numbers). AreLive n live) (sym c.deliver_word.ensures.numbers) are;
  is = rw c.in-Word.is (c.deliver_word.ensures.value image c.args.limits.now results order printed live marked are);
}

pub returns-in-Cells-clause-value : goal.returns-in-Cells-clause-value
returns-in-Cells-clause-value c = λ image order printed live results marked are. record {
  live = live;
  are_live = subst (λ (n : Numbers). AreLive n live) (sym c.make_cells.ensures.numbers) are;
  is = rw c.in-Cells.is (c.make_cells.ensures.value image order printed live marked are);
}

pub returns-in-Fetch-clause-value : goal.returns-in-Fetch-clause-value
returns-in-Fetch-clause-value c = λ image order printed live results marked are. record {
  live = live;
  are_live = subst (λ (n : Numbers). AreLive n live) (sym c.fetch.ensures.numbers) are;
  is = rw c.in-Fetch.is (c.fetch.ensures.value order printed live marked are);
}

pub returns-in-Store-clause-value : goal.returns-in-Store-clause-value
returns-in-Store-clause-value c = λ image order printed live results marked are. record {
  live = live;
  are_live = subst (λ (n : Numbers). AreLive n live) (sym c.store.ensures.numbers) are;
  is = rw c.in-Store.is (c.store.ensures.value order printed live marked are);
}

pub returns-in-Frame-clause-value : goal.returns-in-Frame-clause-value
returns-in-Frame-clause-value c = λ image order printed live results marked are.
    rw c.in-Frame.is (c.begin_for.ensures.value image order printed live results marked are)
