-- What stands before the LF is what was passed and what stands before it in the rest.
use Rattle.std.proofs.Common.{◌≡◌, ◌++◌, take, drop}
use Rattle.tl0_text.specs.CodeSayings.{without_line_feed}
use Rattle.tl0_text.proofs.tokens.without_line_feed.Given as goal

abbrev pub invariant-loop-i : goal.invariant-loop-i
invariant-loop-i l = take l.i l.line ++ without_line_feed (drop l.i l.line) ≡ without_line_feed l.line
