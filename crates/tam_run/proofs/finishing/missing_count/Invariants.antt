use Rattle.std.proofs.Common.{◌≡◌, ◌≤◌, length}
use Rattle.std.specs.Prelude.{filter}
use Rattle.tam_word.specs.Lists.{below}
use Rattle.tam_msgs.specs.Runs.{is_without}
use Rattle.tam_run.proofs.finishing.missing_count.Given as goal

abbrev pub invariant-loop-place : goal.invariant-loop-place
invariant-loop-place l = (l.count ≡ length (filter (is_without l.printed) (below l.place))) × (l.count ≤ l.place)
