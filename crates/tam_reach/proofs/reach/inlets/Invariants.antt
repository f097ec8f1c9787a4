use Rattle.std.proofs.Common.{◌≡◌}
use Rattle.tam_reach.proofs.PlacesThat.{places_up_to}
use Rattle.tam_reach.proofs.reach.inlets.Given as goal

abbrev pub invariant-loop-place : goal.invariant-loop-place
invariant-loop-place l = l.inlets ≡ places_up_to (λ v. v.inlet) l.vertices l.place
