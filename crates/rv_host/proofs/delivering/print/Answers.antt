use Rattle.rv_host.proofs.Printing.{mark-printed}
use Rattle.rv_host.proofs.delivering.print.Goals as goal

pub returns-clause-marks : goal.returns-clause-marks
returns-clause-marks c = λ printed are. mark-printed c.args.state.now.printed.items printed c.args.place c.args.word are
