use Rattle.tam_graph.specs.declared.kind.Kind.TheVariants.{Op}
use Rattle.tam_world.proofs.Unfed.{unfed}
use Rattle.tam_world.proofs.firings.fire_op.Goals as goal

pub returns-in-None : goal.returns-in-None
returns-in-None c = record {
  value = λ g. unfed g c.args.world.now c.args.at.activation c.args.at.node (Op c.args.op c.args.a c.args.b) c.in-None.ensures.value;
}
