use Rattle.std.proofs.Common.{◌≡◌, ◌≢◌, ◌∙◌, ◌+◌, ◌∷◌, refl, take, drop, length, get_or, ap, sym, subst, arith, true≢false}
use Rattle.std.specs.Io.KnownBytes.{Appends}
use Rattle.std.proofs.Math.Seq.{take-length}
use Rattle.std.proofs.lemmas.List.{take_more}
use Rattle.tam_msgs.specs.Runs.{joined}
use Rattle.tam_run.specs.declared.level.Level.TheVariants as level
use Rattle.tam_input.specs.declared.ending.Ending.TheVariants.{WriteFault, NoMemory}
use Rattle.tam.specs.MadeRuns.{level_line, run_lines, level_lines, levels_ending, made_run}
use Rattle.tam.specs.Machines.{has_answered, behind_levels}
use Rattle.tam.proofs.SaidLines.{list-at, levels-answered, not-of-levels, lines-done, levels-broke-off, levels-written, done-answers}
use Rattle.tam.proofs.Handing.{level-whole, level-broken, levels-whole, levels-broken, off-unanswered}
use Rattle.tam.proofs.made.run_levels.Goals as goal

pub returns-then-breaks_off : goal.returns-then-breaks_off
returns-then-breaks_off g c =
    let run = made_run c.args.shape c.args.n c.args.graph.now in
    let ls = c.args.levels.now in
    let i = c.loop-level.level-index in
    record {
      done = levels-broke-off run (take i ls) (get_or ls i level.Graph) (g.K.Sink.taken c.args.out.now) (g.K.Sink.taken c.loop-level.out)
          (g.K.Sink.taken c.run_level-ending.new.out) _ _ _ c.run_level-ending.result c.loop-level.invariant.taken c.loop-level.invariant.counted
          c.run_level-ending.ensures.done (drop (i + 1) ls) ls (list-at ls i level.Graph c.loop-level-test.true)
          (c.breaks_off.ensures.broken c.if-breaks_off.true);
      machine =
          let none = off-unanswered c.run_level-ending.result (c.breaks_off.ensures.broken c.if-breaks_off.true) in
          levels-broken run ls c.run_level-ending.result c.args.machine.now c.run_level-ending.new.machine i c.loop-level-test.true
          (level-broken run c.run_level-ending.result c.args.machine.now c.loop-level.machine c.run_level-ending.new.machine (take i ls)
          (get_or ls i level.Graph) c.loop-level.invariant.machine c.run_level-ending.ensures.machine none) none;
    }

pub loop-level-preserved : goal.loop-level-preserved
loop-level-preserved g c =
    let run = made_run c.args.shape c.args.n c.args.graph.now in
    let ls = c.args.levels.now in
    let i = c.loop-level.level-index in
    let not-out : c.run_level-ending.result ≢ NoMemory = λ e. true≢false (sym (c.breaks_off.ensures.not_out e) ∙ c.if-breaks_off.false) in
    let not-fault : c.run_level-ending.result ≢ WriteFault = λ e. true≢false (sym (c.breaks_off.ensures.not_broken e) ∙ c.if-breaks_off.false) in
    let w = levels-written run (take i ls) (get_or ls i level.Graph) (g.K.Sink.taken c.args.out.now) (g.K.Sink.taken c.loop-level.out)
    (g.K.Sink.taken c.run_level-ending.new.out) _ _ _ c.run_level-ending.result c.loop-level.invariant.taken c.loop-level.invariant.counted
    c.run_level-ending.ensures.done c.loop-level.first c.earlier-first.result (take (i + 1) ls) (take_more ls i level.Graph c.loop-level-test.true)
    c.loop-level.invariant.first_is c.earlier-first.ensures.value not-out not-fault in
    let answered = done-answers (made_run c.args.shape c.args.n c.args.graph.now (get_or ls i level.Graph)) c.run_level-ending.result
    (level_line (get_or ls i level.Graph) ∷ run_lines (made_run c.args.shape c.args.n c.args.graph.now (get_or ls i level.Graph))) _ _ _ _
    c.run_level-ending.ensures.done not-out not-fault in
    record {
      first_is = w.0;
      taken = w.1;
      counted = w.2;
      machine = level-whole run c.run_level-ending.result c.args.machine.now c.loop-level.machine c.run_level-ending.new.machine (take i ls)
          (get_or ls i level.Graph) c.loop-level.invariant.machine c.run_level-ending.ensures.machine answered
          ∙ ap (λ l. behind_levels run l c.args.machine.now) (sym (take_more ls i level.Graph c.loop-level-test.true));
    }

pub returns : goal.returns
returns g c =
    let run = made_run c.args.shape c.args.n c.args.graph.now in
    let ls = c.args.levels.now in
    let i = c.loop-level.level-index in
    let low = c.loop-level-test.false in
    let high = c.loop-level.auto.level-index-end in
    let at-end : i ≡ length ls = omega (arith, low, high) in
    let all = ap (λ k. take k ls) at-end ∙ take-length ls in
    record {
      done = lines-done (level_lines run ls) (levels_ending run ls) c.loop-level.first (g.K.Sink.taken c.args.out.now)
          (g.K.Sink.taken c.loop-level.out) _ _
          (not-of-levels WriteFault refl run ls) (c.loop-level.invariant.first_is ∙ ap (levels_ending run) all)
          (subst (λ l. Appends (g.K.Sink.taken c.args.out.now) (g.K.Sink.taken c.loop-level.out) (joined (level_lines run l))) all
          c.loop-level.invariant.taken)
          c.loop-level.invariant.counted;
      machine = levels-whole run ls c.loop-level.first c.args.machine.now c.loop-level.machine
          (c.loop-level.invariant.machine ∙ ap (λ l. behind_levels run l c.args.machine.now) all)
          (ap has_answered (c.loop-level.invariant.first_is ∙ ap (levels_ending run) all) ∙ levels-answered run ls);
    }
