use Rattle.std.proofs.Common.{◌≡◌, ◌<◌, ℕ, true, false, get_or}
use Rattle.tam_word.specs.Lists.{all_of, below}
use Rattle.tam_quotient.specs.Quotients.{closes_cycle, keeps_outlet}
use Rattle.tam_quotient.proofs.validity.is_valid.Given as goal

abbrev pub invariant-loop-edge : goal.invariant-loop-edge
invariant-loop-edge l = (i : ℕ) → i < l.edge → closes_cycle l.b l.p (get_or l.b.edges i (0, 0)) ≡ false

abbrev pub invariant-loop-place : goal.invariant-loop-place
invariant-loop-place l = all_of (keeps_outlet l.b l.p) (below l.place) ≡ true
