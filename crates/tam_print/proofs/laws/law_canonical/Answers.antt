use Rattle.tam_print.proofs.ReadsBack.{reads-back}
use Rattle.tam_print.proofs.laws.law_canonical.Goals as goal

pub returns : goal.returns
returns c = record { reads = reads-back }
