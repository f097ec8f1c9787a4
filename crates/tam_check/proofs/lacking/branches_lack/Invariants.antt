use Rattle.std.proofs.Common.{◌≡◌, false}
use Rattle.tam_word.specs.Lists.{any_of, below}
use Rattle.tam_check.specs.Interfaces.{branches_lack_at}
use Rattle.tam_check.proofs.lacking.branches_lack.Given as goal

abbrev pub invariant-loop-place : goal.invariant-loop-place
invariant-loop-place l = any_of (branches_lack_at l.tables.code.now l.cond l.yes l.no) (below l.place) ≡ false
