-- The entry counts of the rest go behind what was pushed.
use Rattle.std.proofs.Common.{◌≡◌, ◌++◌, length, map}
use Rattle.rv_gen.proofs.records.push_counts.Given as goal

abbrev pub invariant-loop-rest : goal.invariant-loop-rest
invariant-loop-rest l = l.words.items ++ map (λ t. t.count) l.rest ≡ l.fn.words.items ++ map (λ t. t.count) l.fn.threads

abbrev pub decreases-loop-rest : goal.decreases-loop-rest
decreases-loop-rest l = length l.rest
