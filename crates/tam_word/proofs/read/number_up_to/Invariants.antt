use Rattle.std.proofs.Common.{◌≡◌, ◌≤◌, length}
use Rattle.tam_word.specs.Numbers.{number_behind}
use Rattle.tam_word.proofs.read.number_up_to.Given as goal

abbrev pub invariant-loop-rest : goal.invariant-loop-rest
invariant-loop-rest l = record { so_far : number_behind l.base l.number l.rest ≡ number_behind l.base 0 l.digits; within : l.number ≤ l.most }

abbrev pub decreases-loop-rest : goal.decreases-loop-rest
decreases-loop-rest l = length l.rest
