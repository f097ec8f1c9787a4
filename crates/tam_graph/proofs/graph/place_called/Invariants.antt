use Rattle.tam_word.specs.Lists.{same_bytes}
use Rattle.tam_graph.proofs.FirstPlaces.{NoneBefore}
use Rattle.tam_graph.proofs.graph.place_called.Given as goal

abbrev pub invariant-loop-place : goal.invariant-loop-place
invariant-loop-place l = NoneBefore (λ c. same_bytes l.name c.name) l.codes l.place
