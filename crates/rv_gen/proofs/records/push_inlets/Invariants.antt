-- The words of the rest go behind what was pushed, and the rest names slots and threads that are there.
use Rattle.std.proofs.Common.{◌≡◌, ◌++◌, length, flat_map}
use Rattle.std.specs.List.{AllByRecursion}
use Rattle.rv_gen.specs.Sayable.{IsInletThere}
use Rattle.rv_gen.specs.Parts.{inlet_at}
use Rattle.rv_gen.proofs.records.push_inlets.Given as goal

abbrev pub invariant-loop-rest : goal.invariant-loop-rest
invariant-loop-rest l = record {
  ok : l.words.items ++ flat_map (inlet_at l.slots l.starts) l.rest ≡ l.fn.words.items ++ flat_map (inlet_at l.slots l.starts) l.fn.inlets;
  there : AllByRecursion (IsInletThere l.slots (length l.starts)) l.rest;
}

abbrev pub decreases-loop-rest : goal.decreases-loop-rest
decreases-loop-rest l = length l.rest
