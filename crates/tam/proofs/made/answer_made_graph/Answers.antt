use Rattle.std.proofs.Common.{refl, ◌≡◌, ◌∙◌, ap, sym, subst}
use Rattle.tam_graph.specs.Graphs.{code_of, params_of}
use Rattle.tam_graph.specs.Reading.{Reads}
use Rattle.tam_make.specs.MadeTexts.{made_text}
use Rattle.tam_input.specs.declared.ending.Ending.TheVariants.{NoMemory}
use Rattle.tam_input.specs.Refusing.{no_memory_line}
use Rattle.tam_run.specs.declared.level.Level.TheVariants as level
use Rattle.tam_run.specs.HandedOut.{handed_out}
use Rattle.tam.specs.Machines.{has_answered}
use Rattle.tam.specs.MadeRuns.{made_run, made_lines, made_ending, SaysLines, SaysMade, of_graph, no_graph}
use Rattle.tam.proofs.Saying.{said-done, done-more}
use Rattle.tam.proofs.Running.{said-unanswered}
use Rattle.tam.proofs.Handing.{unanswered-machine}
use Rattle.tam.proofs.made.answer_made_graph.Goals as goal

pub run_made-requires-clause-one_param : goal.run_made-requires-clause-one_param
run_made-requires-clause-one_param g c = subst (λ k. params_of (code_of k k.main) ≡ 1) (sym c.in-Ok.ensures.value) c.requires.one_param

pub returns-in-Ok : goal.returns-in-Ok
returns-in-Ok g c =
    let graph = c.in-Ok.accepted in
    let reads = subst (λ k. Reads (made_text c.args.shape c.args.n) k) (sym c.in-Ok.ensures.value) c.requires.reads in
    record {
      done = done-more _ _ _ _ (SaysLines (made_lines c.args.shape c.args.n graph) (made_ending c.args.shape c.args.n graph))
          (SaysMade c.args.shape c.args.n) c.run_made.result (λ meant text says. of_graph {g = graph} reads c.in-Ok.ensures.accepted says)
          c.run_made.ensures.done;
      machine = c.run_made.ensures.machine
          ∙ ap (λ k. handed_out (has_answered c.run_made.result) (made_run c.args.shape c.args.n k level.Rv32).machine c.args.machine.now)
          c.in-Ok.ensures.value;
    }

pub returns-in-Err-default-NoMemory : goal.returns-in-Err-default-NoMemory
returns-in-Err-default-NoMemory g c = record {
  done = said-done _ _ _ _ (SaysMade c.args.shape c.args.n) NoMemory c.say_no_memory.result _ no_graph c.say_no_memory.ensures.said;
  machine = unanswered-machine (made_run c.args.shape c.args.n c.args.graph level.Rv32).machine c.say_no_memory.result c.args.machine.now
      (said-unanswered NoMemory c.say_no_memory.result no_memory_line _ _ _ _ c.say_no_memory.ensures.said refl);
}
