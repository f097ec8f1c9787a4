use Rattle.std.proofs.Common.{◌≡◌, ◌+◌, ◌++◌, map, take, drop}
use Rattle.tam_split.proofs.parts.move_on.Given as goal

abbrev pub invariant-loop-end : goal.invariant-loop-end
invariant-loop-end l = l.ends ≡ map (λ e. e + l.by) (take l.end-index l.fn.ends) ++ drop l.end-index l.fn.ends
