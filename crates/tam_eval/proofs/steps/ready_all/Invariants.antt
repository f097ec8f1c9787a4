use Rattle.std.proofs.Common.{◌≡◌, ◌++◌, drop, map}
use Rattle.tam_world.specs.Kept.{pairs_of}
use Rattle.tam_eval.proofs.steps.ready_all.Given as goal

abbrev pub invariant-loop-node : goal.invariant-loop-node
invariant-loop-node l =
    pairs_of l.ready.items ++ map (λ x. (l.i, x)) (drop l.node-index l.nodes) ≡ pairs_of l.fn.ready.items ++ map (λ x. (l.i, x)) l.nodes
