use Rattle.std.proofs.Common.{◌≡◌, false}
use Rattle.tam_word.specs.Lists.{any_of, below}
use Rattle.tam_check.specs.Sources.{is_on_cycle}
use Rattle.tam_check.proofs.cycles.cycle_in.Given as goal

abbrev pub invariant-loop-x : goal.invariant-loop-x
invariant-loop-x l = any_of (is_on_cycle l.code l.block) (below l.x) ≡ false
