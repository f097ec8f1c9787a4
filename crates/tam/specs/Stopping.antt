-- What is answered of a run that stopped.
use Rattle.std.specs.Prelude.{ℕ, ◌≡◌, List, [], Option, IfSome}
use Rattle.tam_msgs.specs.declared.stop.Stop.{Stop}
use Rattle.tam_msgs.specs.declared.stop.Stop.TheVariants.{NoMemory}
use Rattle.tam_run.specs.Ends.{end_of_stop}
use Rattle.tam_input.specs.declared.ending.Ending.{Ending}
use Rattle.tam_input.specs.declared.ending.Ending.TheVariants as ending
use Rattle.tam_input.specs.Refusing.{no_memory_line}
use Rattle.tam.specs.SaidRuns.{ending_by}
use Rattle.tam.specs.Headline.{IsSaid}

-- nothing more was written under the ending of its run; where memory was wanted, that was said
abbrev pub AnswersStop : Stop → Ending → Option (List ℕ) → Option (List ℕ) → ℕ → ℕ → Type 0
AnswersStop NoMemory end old new faults faults_new = IsSaid ending.NoMemory no_memory_line end old new faults faults_new
AnswersStop stop end old new faults faults_new = IfSome (end_of_stop stop) (λ how. end ≡ ending_by how []) × (new ≡ old) × (faults_new ≡ faults)
