use Rattle.std.proofs.Common.{◌≡◌, drop}
use Rattle.tam_flow.specs.Journals.{inlets_have_words}
use Rattle.tam_judge.specs.Machines.{state_of}
use Rattle.tam_judge.proofs.class_run.inlets_have_words.Given as goal

abbrev pub invariant-loop-place : goal.invariant-loop-place
invariant-loop-place l =
    inlets_have_words l.graph (state_of l.machine) l.act (drop l.place-index l.class) ≡ inlets_have_words l.graph (state_of l.machine) l.act l.class
