use Rattle.tl0_emit.proofs.InstrFacts.{inlets-there}
use Rattle.tl0_emit.proofs.code_tables.CodeTables.inlet_list.Goals as goal

pub slot-requires : goal.slot-requires
slot-requires c =
    let there = inlets-there c.args.self.now c.inlet_nodes-node-items.ensures.code c.inlet_nodes-node-items.result.now c.loop-node.node-index
    c.inlet_nodes-node-items.ensures.value c.loop-node-test.true in
    record { in_range = there.0 }

pub inlet_thread-requires-clause-in_range : goal.inlet_thread-requires-clause-in_range
inlet_thread-requires-clause-in_range c =
    (inlets-there c.args.self.now c.inlet_nodes-node-items.ensures.code c.inlet_nodes-node-items.result.now c.loop-node.node-index
    c.inlet_nodes-node-items.ensures.value c.loop-node-test.true).0

pub inlet_thread-requires-clause-inlet : goal.inlet_thread-requires-clause-inlet
inlet_thread-requires-clause-inlet c =
    (inlets-there c.args.self.now c.inlet_nodes-node-items.ensures.code c.inlet_nodes-node-items.result.now c.loop-node.node-index
    c.inlet_nodes-node-items.ensures.value c.loop-node-test.true).1
