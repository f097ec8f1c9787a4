use Rattle.std.proofs.Common.{◌≡◌, drop}
use Rattle.tam_judge.specs.Machines.{state_of, effected}
use Rattle.tam_judge.specs.ClassSteps.{all_fired}
use Rattle.tam_judge.proofs.class_run.fire_places.Given as goal

abbrev pub invariant-loop-place : goal.invariant-loop-place
invariant-loop-place l =
    effected (state_of l.machine) (all_fired l.program l.block l.act (drop l.place-index l.places) (state_of l.machine).world)
    ≡ effected (state_of l.fn.machine) (all_fired l.program l.block l.act l.places (state_of l.fn.machine).world)
