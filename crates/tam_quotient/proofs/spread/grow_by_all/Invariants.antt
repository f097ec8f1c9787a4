use Rattle.std.proofs.Common.{◌≡◌, ◌<◌, ℕ, length, take}
use Rattle.tam_graph.specs.Edges.{reaches}
use Rattle.tam_sets.specs.Sets.{places_where}
use Rattle.tam_quotient.specs.Tables.{set_at}
use Rattle.tam_quotient.specs.Spreads.{renamed}
use Rattle.tam_quotient.proofs.spread.grow_by_all.Given as goal

abbrev pub invariant-loop-from : goal.invariant-loop-from
invariant-loop-from l = (k : ℕ) → k < length l.sets → set_at l.sets k ≡ places_where (reaches (renamed l.names (take l.from-index l.edges)) k)
