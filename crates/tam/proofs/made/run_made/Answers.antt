use Rattle.std.proofs.Common.{[], subst, ◌∙◌, refl}
use Rattle.std.specs.Io.KnownBytes.{Appends}
use Rattle.tam_edge.specs.Whole.{AppendsPrefix}
use Rattle.tam_input.specs.declared.ending.Ending.TheVariants.{NoMemory}
use Rattle.tam_input.specs.Refusing.{no_memory_line}
use Rattle.tam_run.specs.declared.level.Level.TheVariants as level
use Rattle.tam.specs.MadeRuns.{head_lines, levels, level_lines, levels_ending, made_run, made_lines, made_ending, SaysLines, first_lines}
use Rattle.tam.proofs.Saying.{said-done, behind-done}
use Rattle.tam.proofs.SaidLines.{behind-says, prefix-done}
use Rattle.tam.proofs.Running.{said-unanswered}
use Rattle.tam.proofs.Handing.{levels-hand, unanswered-machine}
use Rattle.tam.proofs.made.run_made.Goals as goal

pub returns-in-Ok-write_whole : goal.returns-in-Ok-write_whole
returns-in-Ok-write_whole g c =
    let run = made_run c.args.shape c.args.n c.args.graph.now in
    let old = g.K.Sink.taken c.args.out.now in
    let mid = g.K.Sink.taken c.write_whole.new.out in
    record {
      done = behind-done old mid _ _ _ _ _ (subst (Appends old mid) (c.deref.ensures.value ∙ c.in-Ok.ensures.value) c.in-Ok-write_whole.ensures.ok)
          c.in-Ok-write_whole.ensures.counted (SaysLines (level_lines run levels) (levels_ending run levels))
          (SaysLines (made_lines c.args.shape c.args.n c.args.graph.now) (made_ending c.args.shape c.args.n c.args.graph.now)) c.run_levels.result
          (behind-says (level_lines run levels) (levels_ending run levels) (head_lines c.args.shape c.args.n)) c.run_levels.ensures.done;
      machine = levels-hand c.args.shape c.args.n c.args.graph.now c.run_levels.result c.args.machine.now c.run_levels.new.machine c.run_levels.ensures.machine;
    }

pub returns-in-Ok : goal.returns-in-Ok
returns-in-Ok g c =
    let run = made_run c.args.shape c.args.n c.args.graph.now in
    let old = g.K.Sink.taken c.args.out.now in
    let new = g.K.Sink.taken c.write_whole.new.out in
    record {
      done = prefix-done old new _ _ (head_lines c.args.shape c.args.n) (level_lines run levels) (made_ending c.args.shape c.args.n c.args.graph.now)
          (subst (AppendsPrefix old new) (c.deref.ensures.value ∙ c.in-Ok.ensures.value) c.in-Err-write_whole.ensures.err) c.in-Err-write_whole.ensures.counted;
      machine = refl;
    }

pub returns : goal.returns
returns g c =
    let lines = made_lines c.args.shape c.args.n c.args.graph.now in
    record {
      done = said-done _ _ _ _ (SaysLines lines (made_ending c.args.shape c.args.n c.args.graph.now)) NoMemory c.say_no_memory.result _
          (first_lines [] lines refl)
          c.say_no_memory.ensures.said;
      machine = unanswered-machine (made_run c.args.shape c.args.n c.args.graph.now level.Rv32).machine c.say_no_memory.result c.args.machine.now
          (said-unanswered NoMemory c.say_no_memory.result no_memory_line _ _ _ _ c.say_no_memory.ensures.said refl);
    }
