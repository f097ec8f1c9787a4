use Rattle.std.proofs.Common.{append_assoc}
use Rattle.tam_run.proofs.lines.push_tally.Goals as goal

pub returns-in_ok-push_line : goal.returns-in_ok-push_line
returns-in_ok-push_line c = record {
  ok =
      rw (
        c.in_ok-push_line.ensures.ok,
        c.in_ok-push_counts.ensures.ok,
        c.in_ok-instructions_line.ensures.value,
        c.in-Some.is,
      )
      (simp append_assoc);
}
