use Rattle.tam_read.specs.Naming.{faults_known}
use Rattle.tam_read.specs.KnownView.{known}
use Rattle.tam_read.specs.LineView.{saying}
use Rattle.tam_read.proofs.Bodies.{first-cause}
use Rattle.tam_read.proofs.body.build_line.Goals as goal

pub returns-in-Some-clause-refused : goal.returns-in-Some-clause-refused
returns-in-Some-clause-refused c = first-cause (λ d. (c.args.line.now.number, d)) c.in-Some.cause
    (faults_known (known c.args.names.now) (saying c.args.line.now)) c.in-Some.ensures.value
