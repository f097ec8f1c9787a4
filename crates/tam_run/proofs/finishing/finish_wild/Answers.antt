use Rattle.std.proofs.Common.{refl}
use Rattle.tam_msgs.specs.Runs.{Wild}
use Rattle.tam_run.specs.Ends.{cause_of}
use Rattle.tam_run.proofs.LastLines.{end-written, end-broken}
use Rattle.tam_run.proofs.finishing.finish_wild.Goals as goal

pub returns-in-Ok-clause-text : goal.returns-in-Ok-clause-text
returns-in-Ok-clause-text g c = λ results printed. (
  end-written c.end_lines.result c.wild_line.result (Wild (cause_of c.args.what) c.args.number) c.args.tally (λ n ps t. refl) c.wild_line.ensures.value
      c.end_lines.ensures.made c.end_lines.ensures.value results printed _ _ c.in-Ok.ensures.text,
  (cause_of c.args.what, c.args.number, refl),
)

pub returns-in-Err-clause-text : goal.returns-in-Err-clause-text
returns-in-Err-clause-text g c = λ results printed. rw c.outcome_of.ensures.value
    (end-broken c.end_lines.result c.wild_line.result (Wild (cause_of c.args.what) c.args.number) c.args.tally (λ n ps t. refl) c.wild_line.ensures.value
    c.end_lines.ensures.made c.end_lines.ensures.value results printed _ _ c.in-Err.broken c.in-Err.ensures.text)
