use Rattle.std.proofs.Common.{◌≡◌, ◌==◌, ◌++◌, not, drop, filter}
use Rattle.tam_judge.proofs.lists.without.Given as goal

abbrev pub invariant-loop-x : goal.invariant-loop-x
invariant-loop-x l = l.rest.items ++ filter (λ x. not (x == l.number)) (drop l.x-index l.list) ≡ filter (λ x. not (x == l.number)) l.list
