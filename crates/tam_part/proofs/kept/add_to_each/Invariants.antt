use Rattle.tam_part.proofs.Leasts.{IsAdding}
use Rattle.tam_part.proofs.kept.add_to_each.Given as goal

abbrev pub invariant-loop-k : goal.invariant-loop-k
invariant-loop-k l = IsAdding l.p l.both l.fn.ways l.ways l.k
