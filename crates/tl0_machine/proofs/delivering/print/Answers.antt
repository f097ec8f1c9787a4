use Rattle.tl0_machine.proofs.Deliveries.{mark-printed}
use Rattle.tl0_machine.proofs.delivering.print.Goals as goal

pub returns-clause-marks : goal.returns-clause-marks
returns-clause-marks c = λ printed are. mark-printed c.args.state.now.printed.items printed c.args.place c.args.word are
