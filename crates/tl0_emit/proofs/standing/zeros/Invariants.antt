use Rattle.std.proofs.Common.{ℕ, ◌≡◌, length, slice_index}
use Rattle.tl0_emit.proofs.standing.zeros.Given as goal

abbrev pub invariant-loop : goal.invariant-loop
invariant-loop l = record {
  long : length l.counts.items ≡ l.counter;
  zero_each : (d : ℕ) → slice_index l.counts.items d ≡ 0;
}
