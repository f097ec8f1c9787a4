use Rattle.tam_judge_tests.proofs.SmallGraphs.{fed_back-accepted}
use Rattle.tam_judge_tests.proofs.partitions.block_of_g.Goals as goal

pub of-accepted-requires : goal.of-accepted-requires
of-accepted-requires c = record {
  accepted = rw (
    c.of-3.ensures.value,
    c.in_ok-codes.ensures.items,
    c.of.ensures.value,
    c.of-2.ensures.value,
    c.in_ok-caller.ensures.items,
    c.in_ok-called.ensures.items,
    c.in_ok-owners.ensures.items,
    c.in_ok-its_owners.ensures.items,
    c.node.ensures.value,
    c.node-2.ensures.value,
    c.node-3.ensures.value,
    c.node-4.ensures.value,
    c.node-5.ensures.value,
    c.node-6.ensures.value,
    c.node-7.ensures.value,
    c.node-8.ensures.value,
    c.node-9.ensures.value,
    c.node-10.ensures.value,
    c.node-11.ensures.value,
    c.node-12.ensures.value,
    c.node-13.ensures.value,
    c.node-14.ensures.value,
    c.sum.ensures.value,
    c.sum-2.ensures.value,
    c.in_ok-main.ensures.value,
    c.in_ok-g.ensures.value,
  ) (fed_back-accepted c.in_ok-x.x c.in_ok-f.f c.in_ok-y.y c.in_ok-z.z c.in_ok-a.a c.in_ok-b.b c.in_ok-one.one c.in_ok-c.c c.in_ok-d.d);
}
