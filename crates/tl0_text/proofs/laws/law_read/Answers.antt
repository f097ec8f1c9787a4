-- Texts read exactly.
use Rattle.tl0_text.proofs.TextsRead.{texts-read}
use Rattle.tl0_text.proofs.ProgramsBack.{texts-back}
use Rattle.tl0_text.proofs.laws.law_read.Goals as goal

pub returns : goal.returns
returns c = record { exactly = λ bytes short. record { read = λ e. texts-read bytes short e; only = λ p h. texts-back bytes p h } }
