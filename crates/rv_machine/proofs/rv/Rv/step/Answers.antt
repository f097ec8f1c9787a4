use Rattle.rv_machine.proofs.Made.{one-made}
use Rattle.rv_machine.proofs.rv.Rv.step.Goals as goal

pub returns : goal.returns
returns c =
    let run = c.run in
    let made = one-made c.args.self.now run.new.self run.result.done run.result.last run.ensures.in_range run.ensures.value in
    record { value = made.0; after = made.1 }
