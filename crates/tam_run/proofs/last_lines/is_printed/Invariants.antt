use Rattle.std.proofs.Common.{◌≡◌, ◌==◌, length}
use Rattle.tam_word.specs.Lists.{any_of}
use Rattle.tam_run.proofs.last_lines.is_printed.Given as goal

abbrev pub invariant-loop-rest : goal.invariant-loop-rest
invariant-loop-rest l = any_of (λ pair. pair.0 == l.place) l.rest ≡ any_of (λ pair. pair.0 == l.place) l.printed

abbrev pub decreases-loop-rest : goal.decreases-loop-rest
decreases-loop-rest l = length l.rest
