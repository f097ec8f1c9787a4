use Rattle.std.proofs.Common.{◌≡◌, true}
use Rattle.tam_word.specs.Lists.{all_of, below}
use Rattle.tam_check.specs.Sources.{rises_to}
use Rattle.tam_check.proofs.ranks.rises.Given as goal

abbrev pub invariant-loop-x : goal.invariant-loop-x
invariant-loop-x l = all_of (rises_to l.code l.ranks) (below l.x) ≡ true
