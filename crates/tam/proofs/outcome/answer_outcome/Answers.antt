use Rattle.std.proofs.Common.{subst, sym, ap, ◌∙◌}
use Rattle.tam_msgs.specs.Runs.{missing_of}
use Rattle.tam_run.specs.HandedOut.{is_whole}
use Rattle.tam_run.specs.Writing.{Writes, CountsRun}
use Rattle.tam.proofs.Running.{whole-done, broken-done, stopped-done, quiet-ending, quiet-answered, stop-answered}
use Rattle.tam.proofs.outcome.answer_outcome.Goals as goal

pub returns-in-Quiet : goal.returns-in-Quiet
returns-in-Quiet g c = record {
  done = λ a before faults wrote count.
      let w = subst (Writes a before (g.K.Sink.taken c.args.out.now)) c.in-Quiet.is wrote in
      whole-done a before _ faults _ c.quiet_ending.result
      (quiet-ending a.report.how (missing_of a.report.how a.report.results a.report.printed) c.in-Quiet.missing c.quiet_ending.result w.1 w.2
      c.quiet_ending.ensures.none
      c.quiet_ending.ensures.some) w.0 (subst (CountsRun faults (g.K.Sink.faults c.args.out.now)) c.in-Quiet.is count);
  answered = quiet-answered c.in-Quiet.missing c.quiet_ending.result c.quiet_ending.ensures.none c.quiet_ending.ensures.some ∙ ap is_whole (sym c.in-Quiet.is);
}

pub returns-in-Stopped : goal.returns-in-Stopped
returns-in-Stopped g c = record {
  done = λ a before faults wrote count.
      stopped-done a before _ faults _ c.in-Stopped.stop (g.K.Sink.taken c.args.out.now) (g.K.Sink.faults c.args.out.now) c.answer_stop.result
      (subst (Writes a before (g.K.Sink.taken c.args.out.now)) c.in-Stopped.is wrote)
      (subst (CountsRun faults (g.K.Sink.faults c.args.out.now)) c.in-Stopped.is count) c.answer_stop.ensures.stopped;
  answered = stop-answered c.in-Stopped.stop c.answer_stop.result _ _ _ _ c.answer_stop.ensures.stopped ∙ ap is_whole (sym c.in-Stopped.is);
}

pub returns-in-WriteFault : goal.returns-in-WriteFault
returns-in-WriteFault g c = record {
  done = λ a before faults wrote count.
      broken-done a before _ faults _ (subst (Writes a before (g.K.Sink.taken c.args.out.now)) c.in-WriteFault.is wrote)
      (subst (CountsRun faults (g.K.Sink.faults c.args.out.now)) c.in-WriteFault.is count);
  answered = ap is_whole (sym c.in-WriteFault.is);
}
