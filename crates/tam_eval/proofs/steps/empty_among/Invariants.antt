use Rattle.std.proofs.Common.{◌≡◌, ◌≤◌, not, take}
use Rattle.std.specs.Prelude.{count_by}
use Rattle.tam_world.specs.Worlds.{has_word}
use Rattle.tam_eval.proofs.steps.empty_among.Given as goal

abbrev pub invariant-loop-node : goal.invariant-loop-node
invariant-loop-node l = record {
  few : l.count ≤ l.node-index;
  value : l.count ≡ count_by (λ x. not (has_word l.world l.i x)) (take l.node-index l.nodes);
}
