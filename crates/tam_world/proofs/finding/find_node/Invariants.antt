use Rattle.std.proofs.Common.{◌≡◌, drop}
use Rattle.tam_word.specs.Lists.{first_of}
use Rattle.tam_graph.specs.Graphs.{code_of, kind_at, block_at}
use Rattle.tam_world.specs.Sought.{is_sought}
use Rattle.tam_world.proofs.finding.find_node.Given as goal

abbrev pub invariant-loop-x : goal.invariant-loop-x
invariant-loop-x l =
    first_of (λ x. is_sought l.sought (block_at (code_of l.program l.code) x) (kind_at (code_of l.program l.code) x)) (drop l.x-index l.inlets)
    ≡ first_of (λ x. is_sought l.sought (block_at (code_of l.program l.code) x) (kind_at (code_of l.program l.code) x)) l.inlets
