use Rattle.tam_graph.specs.declared.kind.Kind.TheVariants.{Seq}
use Rattle.tam_world.proofs.Unfed.{unfed}
use Rattle.tam_world.proofs.firings.fire_seq.Goals as goal

pub returns-in-None : goal.returns-in-None
returns-in-None c = record {
  value = λ g. unfed g c.args.world.now c.args.at.activation c.args.at.node (Seq c.args.a c.args.b) c.in-None.ensures.value;
}
