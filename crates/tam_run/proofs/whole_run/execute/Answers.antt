use Rattle.tam_run.proofs.HandingOut.{nothing-handed}
use Rattle.tam_run.proofs.whole_run.execute.Goals as goal

pub returns-in-Graph-clause-text : goal.returns-in-Graph-clause-text
returns-in-Graph-clause-text g c = rw c.in-Graph.is c.run_graph.ensures.text

pub returns-in-Graph-clause-machine : goal.returns-in-Graph-clause-machine
returns-in-Graph-clause-machine g c = rw c.in-Graph.is (nothing-handed c.args.machine.now c.run_graph.result)

pub returns-in-Tl0-clause-text : goal.returns-in-Tl0-clause-text
returns-in-Tl0-clause-text g c = rw c.in-Tl0.is c.run_threads.ensures.text

pub returns-in-Tl0-clause-machine : goal.returns-in-Tl0-clause-machine
returns-in-Tl0-clause-machine g c = rw c.in-Tl0.is (nothing-handed c.args.machine.now c.run_threads.result)

pub returns-in-Rv32-clause-text : goal.returns-in-Rv32-clause-text
returns-in-Rv32-clause-text g c = rw c.in-Rv32.is c.run_machine.ensures.text

pub returns-in-Rv32-clause-machine : goal.returns-in-Rv32-clause-machine
returns-in-Rv32-clause-machine g c = rw c.in-Rv32.is c.run_machine.ensures.machine
