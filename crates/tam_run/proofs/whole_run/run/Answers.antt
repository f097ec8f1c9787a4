use Rattle.tam_run.specs.Levels.{told_at}
use Rattle.tam_run.proofs.QuietRuns.{borne-not_wild, borne-no_trap}
use Rattle.tam_run.proofs.whole_run.run.Goals as goal

pub unreachable-requires : goal.unreachable-requires
unreachable-requires g c =
    let borne = c.law_runs.ensures.borne c.args.level c.args.g.now c.args.args.now c.args.order c.args.limits c.graph-graph.ensures.accepted
    c.requires.arguments c.requires.limits in
    borne-not_wild c.args.g.now borne.0 c.args.args.now c.args.limits (told_at c.args.level c.args.g.now c.args.args.now c.args.order c.args.limits) borne.1
    c.in-Wild.ensures.text.1

pub unreachable-requires-in-Trap : goal.unreachable-requires-in-Trap
unreachable-requires-in-Trap g c =
    let borne = c.law_runs.ensures.borne c.args.level c.args.g.now c.args.args.now c.args.order c.args.limits c.graph-graph.ensures.accepted
    c.requires.arguments c.requires.limits in
    borne-no_trap c.args.g.now borne.0 c.args.args.now c.args.limits (told_at c.args.level c.args.g.now c.args.args.now c.args.order c.args.limits) borne.1
    c.in-Trap.ensures.text.1
