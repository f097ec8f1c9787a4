use Rattle.std.proofs.Common.{◌≡◌, [], flat_map}
use Rattle.tam_word.specs.Lists.{below}
use Rattle.tam_check.specs.FirstFault.{faults_in}
use Rattle.tam_check.proofs.checker.first_in_codes.Given as goal

abbrev pub invariant-loop-n : goal.invariant-loop-n
invariant-loop-n l = flat_map (faults_in l.graph.graph.now) (below l.n) ≡ []
