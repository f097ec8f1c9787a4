use Rattle.std.proofs.Common.{◌≡◌, ◌<◌, ◌≤◌, ℕ}
use Rattle.tam_quotient.specs.Tables.{set_at}
use Rattle.tam_quotient.specs.Spreads.{grown}
use Rattle.tam_quotient.proofs.spread.grow.Given as goal

abbrev pub invariant-loop-set : goal.invariant-loop-set
invariant-loop-set l = record {
  done : (k : ℕ) → k < l.set-index → set_at l.sets k ≡ grown l.from l.further (set_at l.initial.sets k);
  left : (k : ℕ) → l.set-index ≤ k → set_at l.sets k ≡ set_at l.initial.sets k;
}
