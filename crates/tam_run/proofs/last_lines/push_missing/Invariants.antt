use Rattle.std.proofs.Common.{◌≡◌, ◌++◌, map}
use Rattle.std.specs.Prelude.{filter}
use Rattle.tam_word.specs.Lists.{below}
use Rattle.tam_msgs.specs.Runs.{missing_line, is_without}
use Rattle.tam_run.specs.LineLists.{texts_of}
use Rattle.tam_run.proofs.last_lines.push_missing.Given as goal

abbrev pub invariant-loop-place : goal.invariant-loop-place
invariant-loop-place l = texts_of l.lines.items ≡ texts_of l.fn.lines.items ++ map missing_line (filter (is_without l.printed) (below l.place))
