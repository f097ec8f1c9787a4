use Rattle.std.proofs.Common.{◌≡◌, ◌<◌, ℕ, false}
use Rattle.tam_split.specs.Partitions.{may_merge}
use Rattle.tam_part.specs.Kept.{AreSeparated}
use Rattle.tam_part.proofs.merging.partner.Given as goal

abbrev pub invariant-loop-j : goal.invariant-loop-j
invariant-loop-j l = record {
  here : (a : ℕ) → a < l.j → may_merge l.b l.p (a, l.k) ≡ false;
  separated : AreSeparated l.b l.p l.apart;
}

abbrev pub invariant-loop-l : goal.invariant-loop-l
invariant-loop-l l = record {
  before : (a : ℕ) → a < l.k → may_merge l.b l.p (a, l.k) ≡ false;
  here : (c : ℕ) → l.k < c → c < l.l → may_merge l.b l.p (l.k, c) ≡ false;
  separated : AreSeparated l.b l.p l.apart;
}
