use Rattle.std.proofs.Common.{◌≡◌, filter}
use Rattle.tam_word.specs.Lists.{below}
use Rattle.tam_split.specs.Blocks.{vertex_at}
use Rattle.tam_quotient.proofs.gather.outlets.Given as goal

abbrev pub invariant-loop-place : goal.invariant-loop-place
invariant-loop-place l = l.outlets.items ≡ filter (λ x. (vertex_at l.b x).outlet) (below l.place)
