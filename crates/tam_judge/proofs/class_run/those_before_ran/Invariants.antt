use Rattle.std.proofs.Common.{◌≡◌, true, false}
use Rattle.tam_word.specs.Lists.{below, all_of}
use Rattle.tam_split.specs.Partitions.{directly_before}
use Rattle.tam_flow.specs.Journals.{has_run}
use Rattle.tam_judge.specs.Machines.{state_of}
use Rattle.tam_judge.proofs.class_run.those_before_ran.Given as goal

abbrev pub invariant-loop-class : goal.invariant-loop-class
invariant-loop-class l =
    all_of (λ d. elim (directly_before l.graph.edges l.parts d l.run.class) [
      | true ↦ has_run (state_of l.machine) l.run.act l.run.block d
      | false ↦ true
    ]) (below l.class) ≡ true
