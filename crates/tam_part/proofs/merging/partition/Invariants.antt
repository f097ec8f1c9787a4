use Rattle.std.proofs.Common.{◌+◌, ◌-◌, ◌*◌, ◌≤◌, length}
use Rattle.tam_part.specs.Kept.{AreWays, AreSeparated, AreDone}
use Rattle.tam_part.proofs.Merges.{IsBetween}
use Rattle.tam_part.proofs.merging.partition.Given as goal

abbrev pub decreases-loop-k : goal.decreases-loop-k
decreases-loop-k l = length l.parts * 514 + (512 - l.k)

abbrev pub invariant-loop-k : goal.invariant-loop-k
invariant-loop-k l = record {
  between : IsBetween l.b l.parts;
  ways : AreWays l.b l.parts l.ways.items;
  separated : AreSeparated l.b l.parts l.apart.items;
  done : AreDone l.b l.parts l.k;
  few : length l.parts ≤ 512;
  low : l.k ≤ length l.parts;
}
