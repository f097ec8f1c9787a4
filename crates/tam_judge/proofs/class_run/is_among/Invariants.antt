use Rattle.std.proofs.Common.{◌≡◌, drop, ◌==◌, ◌&&◌}
use Rattle.tam_word.specs.Lists.{any_of}
use Rattle.tam_judge.specs.Machines.{runs_of}
use Rattle.tam_judge.proofs.class_run.is_among.Given as goal

abbrev pub invariant-loop-other : goal.invariant-loop-other
invariant-loop-other l =
    any_of (λ r. (r.0 == l.run.act) && ((r.1 == l.run.block) && (r.2 == l.run.class))) (runs_of (drop l.other-index l.runs))
    ≡ any_of (λ r. (r.0 == l.run.act) && ((r.1 == l.run.block) && (r.2 == l.run.class))) (runs_of l.runs)
