use Rattle.std.proofs.Common.{◌≡◌, take}
use Rattle.tam_quotient.specs.Tables.{permitted}
use Rattle.tam_quotient.proofs.gather.allowed.Given as goal

abbrev pub invariant-loop-place : goal.invariant-loop-place
invariant-loop-place l = l.set ≡ permitted l.inlets (take l.place-index l.outlets) l.classes l.ahead l.depends
