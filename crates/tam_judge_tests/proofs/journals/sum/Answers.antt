use Rattle.tam_judge_tests.proofs.SmallGraphs.{sum-accepted}
use Rattle.tam_judge_tests.proofs.journals.sum.Goals as goal

pub of-requires-3 : goal.of-requires-3
of-requires-3 c = record {
  accepted = rw (
    c.of-2.ensures.value,
    c.in_ok-codes.ensures.items,
    c.of.ensures.value,
    c.in_ok-nodes.ensures.items,
    c.in_ok-owners.ensures.items,
    c.node.ensures.value,
    c.node-2.ensures.value,
    c.node-3.ensures.value,
    c.node-4.ensures.value,
    c.in_ok-main.ensures.value,
  ) (sum-accepted c.in_ok-a.a c.in_ok-b.b c.in_ok-s.s);
}
