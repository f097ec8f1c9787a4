use Rattle.std.proofs.Common.{refl}
use Rattle.tam_msgs.specs.Runs.{Quiet}
use Rattle.tam_run.specs.Accounts.{told_of, closing_lines}
use Rattle.tam_run.proofs.LastLines.{lines-written, lines-broken, finish-broken}
use Rattle.tam_run.proofs.finishing.finish_quiet.Goals as goal

pub returns-in-Ok-clause-text : goal.returns-in-Ok-clause-text
returns-in-Ok-clause-text g c = (
  lines-written c.quiet_lines.result (closing_lines (told_of c.args.printed.now Quiet c.args.results c.args.tally.counts) c.args.tally.instructions) _ _
      c.quiet_lines.ensures.value c.in-Ok.ensures.text,
  refl,
  c.missing_count.ensures.exact,
)

pub returns-in-Err-clause-text : goal.returns-in-Err-clause-text
returns-in-Err-clause-text g c =
    let r = told_of c.args.printed.now Quiet c.args.results c.args.tally.counts in
    rw c.outcome_of.ensures.value
    (finish-broken r c.args.tally.instructions _ _ c.in-Err.broken
    (lines-broken c.quiet_lines.result (closing_lines r c.args.tally.instructions) _ _ c.in-Err.broken c.quiet_lines.ensures.value c.in-Err.ensures.text))
