use Rattle.tam_graph.specs.declared.kind.Kind.TheVariants.{Store}
use Rattle.tam_world.proofs.Unfed.{unfed}
use Rattle.tam_world.proofs.firings.fire_store.Goals as goal

pub returns-in-None : goal.returns-in-None
returns-in-None c = record {
  value = λ g. unfed g c.args.world.now c.args.at.activation c.args.at.node (Store c.args.array c.args.index c.args.a) c.in-None.ensures.value;
}
