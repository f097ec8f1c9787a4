use Rattle.std.proofs.Common.{◌≡◌, sym, subst}
use Rattle.std.specs.Prelude.{IfOk}
use Rattle.tam_run.specs.Accounts.{told_of, closing_lines}
use Rattle.tam_run.specs.LineLists.{texts_of}
use Rattle.tam_run.specs.Tallies.{tally_lines}
use Rattle.tam_run.proofs.LastLines.{lines-written, lines-broken, finish-broken, stop-lines, lines-of_stop, stop-finished, count-broken}
use Rattle.tam_run.proofs.finishing.finish_stopped.Goals as goal

pub returns-in-Ok : goal.returns-in-Ok
returns-in-Ok g c = record {
  text = λ how results printed e.
      let r = told_of printed how results c.args.tally.counts in
      stop-finished r c.args.tally.instructions _ _ c.args.stop (λ e. c.in_default.not-NoMemory e)
      (lines-written c.stopped_lines.result (closing_lines r c.args.tally.instructions) _ _
      (subst (λ ls. IfOk c.stopped_lines.result (λ made. texts_of made.items ≡ ls)) (sym (stop-lines c.args.stop how e results printed c.args.tally))
      (lines-of_stop c.stopped_lines.result c.args.stop how (tally_lines c.args.tally) e c.stopped_lines.ensures.value)) c.in-Ok.ensures.text) e;
  no_memory = λ e. absurd (c.in_default.not-NoMemory e);
  counted = c.in-Ok.ensures.counted;
}

pub returns-in-Err : goal.returns-in-Err
returns-in-Err g c = record {
  text = λ how results printed e.
      let r = told_of printed how results c.args.tally.counts in
      rw c.outcome_of.ensures.value
      (finish-broken r c.args.tally.instructions _ _ c.in-Err.broken
      (lines-broken c.stopped_lines.result (closing_lines r c.args.tally.instructions) _ _ c.in-Err.broken
      (subst (λ ls. IfOk c.stopped_lines.result (λ made. texts_of made.items ≡ ls)) (sym (stop-lines c.args.stop how e results printed c.args.tally))
      (lines-of_stop c.stopped_lines.result c.args.stop how (tally_lines c.args.tally) e c.stopped_lines.ensures.value)) c.in-Err.ensures.text));
  no_memory = λ e. absurd (c.in_default.not-NoMemory e);
  counted = rw c.outcome_of.ensures.value (count-broken _ _ c.in-Err.broken c.in-Err.ensures.counted);
}
