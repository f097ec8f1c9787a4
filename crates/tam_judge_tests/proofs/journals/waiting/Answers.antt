use Rattle.std.proofs.Common.{◌≡◌, true, [], ◌∷◌, sym, subst, refl}
use Rattle.tam_graph.specs.Graphs.{Graph}
use Rattle.tam_split.specs.Partitions.{single}
use Rattle.tam_split.specs.GraphPartitions.{are_valid}
use Rattle.tam_judge_tests.proofs.SmallGraphs.{one_block, waiting_nodes, waiting-accepted, waiting-valid, waiting-valid_singly, waiting-arguments}
use Rattle.tam_judge_tests.proofs.journals.waiting.Goals as goal

pub of-requires-3 : goal.of-requires-3
of-requires-3 c = record {
  accepted = rw (
    c.of-2.ensures.value,
    c.in_ok-codes.ensures.items,
    c.of.ensures.value,
    c.in_ok-nodes.ensures.items,
    c.in_ok-owners.ensures.items,
    c.node.ensures.value,
    c.node-2.ensures.value,
    c.node-3.ensures.value,
    c.node-4.ensures.value,
    c.node-5.ensures.value,
    c.node-6.ensures.value,
    c.node-7.ensures.value,
    c.node-8.ensures.value,
    c.in_ok-main.ensures.value,
  ) (waiting-accepted c.in_ok-n.n c.in_ok-cells.cells c.in_ok-z.z c.in_ok-v.v c.in_ok-x.x c.in_ok-y.y);
}

pub returns-clause-valid : goal.returns-clause-valid
returns-clause-valid c =
    let graph_is : c.of-3.result ≡ one_block (waiting_nodes c.in_ok-n.n c.in_ok-cells.cells c.in_ok-z.z c.in_ok-v.v c.in_ok-x.x c.in_ok-y.y) = rw (
      c.of-3.ensures.value,
      c.of-2.ensures.value,
      c.in_ok-codes.ensures.items,
      c.of.ensures.value,
      c.in_ok-nodes.ensures.items,
      c.in_ok-owners.ensures.items,
      c.node.ensures.value,
      c.node-2.ensures.value,
      c.node-3.ensures.value,
      c.node-4.ensures.value,
      c.node-5.ensures.value,
      c.node-6.ensures.value,
      c.node-7.ensures.value,
      c.node-8.ensures.value,
      c.in_ok-main.ensures.value,
    ) refl in
    subst (λ (g : Graph). are_valid g ((((0 ∷ 1 ∷ 3 ∷ []) ∷ (2 ∷ 4 ∷ []) ∷ (5 ∷ 8 ∷ []) ∷ (6 ∷ 7 ∷ 9 ∷ []) ∷ []) ∷ []) ∷ []) ≡ true) (sym graph_is)
    (waiting-valid c.in_ok-n.n c.in_ok-cells.cells c.in_ok-z.z c.in_ok-v.v c.in_ok-x.x c.in_ok-y.y)

pub returns-clause-valid_singly : goal.returns-clause-valid_singly
returns-clause-valid_singly c =
    let graph_is : c.of-3.result ≡ one_block (waiting_nodes c.in_ok-n.n c.in_ok-cells.cells c.in_ok-z.z c.in_ok-v.v c.in_ok-x.x c.in_ok-y.y) = rw (
      c.of-3.ensures.value,
      c.of-2.ensures.value,
      c.in_ok-codes.ensures.items,
      c.of.ensures.value,
      c.in_ok-nodes.ensures.items,
      c.in_ok-owners.ensures.items,
      c.node.ensures.value,
      c.node-2.ensures.value,
      c.node-3.ensures.value,
      c.node-4.ensures.value,
      c.node-5.ensures.value,
      c.node-6.ensures.value,
      c.node-7.ensures.value,
      c.node-8.ensures.value,
      c.in_ok-main.ensures.value,
    ) refl in
    subst (λ (g : Graph). are_valid g ((single 10 ∷ []) ∷ []) ≡ true) (sym graph_is)
    (waiting-valid_singly c.in_ok-n.n c.in_ok-cells.cells c.in_ok-z.z c.in_ok-v.v c.in_ok-x.x c.in_ok-y.y)

pub returns-clause-arguments : goal.returns-clause-arguments
returns-clause-arguments c = rw (
  c.of-3.ensures.value,
  c.of-2.ensures.value,
  c.in_ok-codes.ensures.items,
  c.of.ensures.value,
  c.in_ok-nodes.ensures.items,
  c.in_ok-owners.ensures.items,
  c.node.ensures.value,
  c.node-2.ensures.value,
  c.node-3.ensures.value,
  c.node-4.ensures.value,
  c.node-5.ensures.value,
  c.node-6.ensures.value,
  c.node-7.ensures.value,
  c.node-8.ensures.value,
  c.in_ok-main.ensures.value,
) (waiting-arguments c.in_ok-n.n c.in_ok-cells.cells c.in_ok-z.z c.in_ok-v.v c.in_ok-x.x c.in_ok-y.y)
