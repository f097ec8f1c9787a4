use Rattle.std.proofs.Common.{◌≡◌, take}
use Rattle.tam_quotient.specs.Tables.{entered}
use Rattle.tam_quotient.proofs.gather.entering.Given as goal

abbrev pub invariant-loop-place : goal.invariant-loop-place
invariant-loop-place l = l.set ≡ entered (take l.place-index l.inlets) l.classes l.behind
