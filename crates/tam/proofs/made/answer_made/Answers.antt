use Rattle.std.proofs.Common.{refl}
use Rattle.tam_input.specs.declared.ending.Ending.TheVariants.{NoMemory}
use Rattle.tam_input.specs.Refusing.{no_memory_line}
use Rattle.tam.specs.MadeRuns.{SaysMade, no_graph}
use Rattle.tam.proofs.Saying.{said-done}
use Rattle.tam.proofs.Running.{said-unanswered}
use Rattle.tam.proofs.Handing.{unanswered-made}
use Rattle.tam.proofs.made.answer_made.Goals as goal

pub returns-in-Err : goal.returns-in-Err
returns-in-Err g c = record {
  done = said-done _ _ _ _ (SaysMade c.args.shape c.args.n) NoMemory c.say_no_memory.result _ no_graph c.say_no_memory.ensures.said;
  machine = unanswered-made c.law_made.ensures.accepted c.args.shape c.args.n c.requires.in_range c.say_no_memory.result c.args.machine.now
      (said-unanswered NoMemory c.say_no_memory.result no_memory_line _ _ _ _ c.say_no_memory.ensures.said refl);
}
