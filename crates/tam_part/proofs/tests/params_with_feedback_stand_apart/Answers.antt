use Rattle.std.proofs.Common.{◌≡◌}
use Rattle.tam_graph.specs.Graphs.{main_name}
use Rattle.tam_reach.proofs.ExampleBlock.{example-accepted}
use Rattle.tam_part.proofs.tests.params_with_feedback_stand_apart.Goals as goal

pub of-accepted-requires : goal.of-accepted-requires
of-accepted-requires g c =
    let named : c.expect-main.result ≡ main_name = rw c.expect-main.ensures at c.of.ensures.value in
    record {
      accepted = rw (
        c.of-8.ensures.value,
        c.in_ok-codes.ensures.items,
        c.of-7.ensures.value,
        c.in_ok-nodes.ensures.items,
        c.in_ok-owners.ensures.items,
        c.node.ensures.value,
        c.node-2.ensures.value,
        c.node-3.ensures.value,
        c.node-4.ensures.value,
        c.node-5.ensures.value,
        c.node-6.ensures.value,
        c.node-7.ensures.value,
      )
          (example-accepted c.expect-main.result c.expect-a.result c.expect-b.result c.expect-one.result c.expect-c.result c.expect-d.result named);
    }
