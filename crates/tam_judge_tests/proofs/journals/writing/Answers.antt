use Rattle.std.proofs.Common.{◌≡◌, true, [], ◌∷◌, sym, subst, refl, arith}
use Rattle.tam_graph.specs.Graphs.{Graph, AreArguments}
use Rattle.tam_split.specs.Partitions.{single}
use Rattle.tam_split.specs.GraphPartitions.{are_valid}
use Rattle.tam_judge_tests.proofs.SmallGraphs.{one_block, writing_nodes, writing-accepted, writing-valid, writing-valid_singly, writing-arguments}
use Rattle.tam_judge_tests.proofs.journals.writing.Goals as goal

pub of-requires-3 : goal.of-requires-3
of-requires-3 c = record {
  accepted = rw (
    c.of-2.ensures.value,
    c.in_ok-codes.ensures.items,
    c.of.ensures.value,
    c.in_ok-nodes.ensures.items,
    c.in_ok-owners.ensures.items,
    c.node.ensures.value,
    c.node-2.ensures.value,
    c.node-3.ensures.value,
    c.node-4.ensures.value,
    c.node-5.ensures.value,
    c.node-6.ensures.value,
    c.node-7.ensures.value,
    c.node-8.ensures.value,
    c.in_ok-main.ensures.value,
  ) (writing-accepted c.in_ok-n.n c.in_ok-cells.cells c.in_ok-z.z c.in_ok-x.x c.in_ok-v.v);
}

pub returns-clause-valid : goal.returns-clause-valid
returns-clause-valid c =
    let graph_is : c.of-3.result ≡ one_block (writing_nodes c.in_ok-n.n c.in_ok-cells.cells c.in_ok-z.z c.in_ok-x.x c.in_ok-v.v) = rw (
      c.of-3.ensures.value,
      c.of-2.ensures.value,
      c.in_ok-codes.ensures.items,
      c.of.ensures.value,
      c.in_ok-nodes.ensures.items,
      c.in_ok-owners.ensures.items,
      c.node.ensures.value,
      c.node-2.ensures.value,
      c.node-3.ensures.value,
      c.node-4.ensures.value,
      c.node-5.ensures.value,
      c.node-6.ensures.value,
      c.node-7.ensures.value,
      c.node-8.ensures.value,
      c.in_ok-main.ensures.value,
    ) refl in
    subst (λ (g : Graph). are_valid g ((((0 ∷ 1 ∷ []) ∷ (2 ∷ 3 ∷ 5 ∷ 7 ∷ []) ∷ (4 ∷ 6 ∷ []) ∷ (8 ∷ 9 ∷ []) ∷ []) ∷ []) ∷ []) ≡ true) (sym graph_is)
    (writing-valid c.in_ok-n.n c.in_ok-cells.cells c.in_ok-z.z c.in_ok-x.x c.in_ok-v.v)

pub returns-clause-valid_singly : goal.returns-clause-valid_singly
returns-clause-valid_singly c =
    let graph_is : c.of-3.result ≡ one_block (writing_nodes c.in_ok-n.n c.in_ok-cells.cells c.in_ok-z.z c.in_ok-x.x c.in_ok-v.v) = rw (
      c.of-3.ensures.value,
      c.of-2.ensures.value,
      c.in_ok-codes.ensures.items,
      c.of.ensures.value,
      c.in_ok-nodes.ensures.items,
      c.in_ok-owners.ensures.items,
      c.node.ensures.value,
      c.node-2.ensures.value,
      c.node-3.ensures.value,
      c.node-4.ensures.value,
      c.node-5.ensures.value,
      c.node-6.ensures.value,
      c.node-7.ensures.value,
      c.node-8.ensures.value,
      c.in_ok-main.ensures.value,
    ) refl in
    subst (λ (g : Graph). are_valid g ((single 10 ∷ []) ∷ []) ≡ true) (sym graph_is)
    (writing-valid_singly c.in_ok-n.n c.in_ok-cells.cells c.in_ok-z.z c.in_ok-x.x c.in_ok-v.v)

pub returns-clause-inside : goal.returns-clause-inside
returns-clause-inside c =
    let graph_is : c.of-3.result ≡ one_block (writing_nodes c.in_ok-n.n c.in_ok-cells.cells c.in_ok-z.z c.in_ok-x.x c.in_ok-v.v) = rw (
      c.of-3.ensures.value,
      c.of-2.ensures.value,
      c.in_ok-codes.ensures.items,
      c.of.ensures.value,
      c.in_ok-nodes.ensures.items,
      c.in_ok-owners.ensures.items,
      c.node.ensures.value,
      c.node-2.ensures.value,
      c.node-3.ensures.value,
      c.node-4.ensures.value,
      c.node-5.ensures.value,
      c.node-6.ensures.value,
      c.node-7.ensures.value,
      c.node-8.ensures.value,
      c.in_ok-main.ensures.value,
    ) refl in
    subst (λ (g : Graph). AreArguments g (0 ∷ [])) (sym graph_is)
    (writing-arguments c.in_ok-n.n c.in_ok-cells.cells c.in_ok-z.z c.in_ok-x.x c.in_ok-v.v 0 (omega arith))

pub returns-clause-outside : goal.returns-clause-outside
returns-clause-outside c =
    let graph_is : c.of-3.result ≡ one_block (writing_nodes c.in_ok-n.n c.in_ok-cells.cells c.in_ok-z.z c.in_ok-x.x c.in_ok-v.v) = rw (
      c.of-3.ensures.value,
      c.of-2.ensures.value,
      c.in_ok-codes.ensures.items,
      c.of.ensures.value,
      c.in_ok-nodes.ensures.items,
      c.in_ok-owners.ensures.items,
      c.node.ensures.value,
      c.node-2.ensures.value,
      c.node-3.ensures.value,
      c.node-4.ensures.value,
      c.node-5.ensures.value,
      c.node-6.ensures.value,
      c.node-7.ensures.value,
      c.node-8.ensures.value,
      c.in_ok-main.ensures.value,
    ) refl in
    subst (λ (g : Graph). AreArguments g (1 ∷ [])) (sym graph_is)
    (writing-arguments c.in_ok-n.n c.in_ok-cells.cells c.in_ok-z.z c.in_ok-x.x c.in_ok-v.v 1 (omega arith))
