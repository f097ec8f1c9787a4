use Rattle.std.proofs.Common.{append_assoc}
use Rattle.tam_run.proofs.lines.push_counts.Goals as goal

pub returns : goal.returns
returns c = record {
  ok =
      rw (
        c.in_ok-push_line-3.ensures.ok,
        c.in_ok-push_line-2.ensures.ok,
        c.in_ok-push_line.ensures.ok,
        c.in_ok-number_line.ensures.value,
        c.in_ok-number_line-2.ensures.value,
        c.in_ok-number_line-3.ensures.value,
      )
      (simp append_assoc);
}
