use Rattle.std.proofs.Common.{◌≡◌, ◌++◌, map, drop}
use Rattle.tl0_code.specs.declared.inlet.Inlet.{Inlet}
use Rattle.tl0_keep.specs.Compiled.{slot_of, thread_of_inlet}
use Rattle.tl0_emit.specs.CodeParts.{its_code}
use Rattle.tl0_emit.proofs.code_tables.CodeTables.inlet_list.Given as goal

abbrev pub invariant-loop-node : goal.invariant-loop-node
invariant-loop-node l =
    l.inlets.items ++ map {B = Inlet} (λ x. record { slot = slot_of (its_code l.self) x; thread = thread_of_inlet (its_code l.self) l.self.parts x })
    (drop l.node-index l.node-items)
    ≡ map {B = Inlet} (λ x. record { slot = slot_of (its_code l.self) x; thread = thread_of_inlet (its_code l.self) l.self.parts x }) l.node-items
