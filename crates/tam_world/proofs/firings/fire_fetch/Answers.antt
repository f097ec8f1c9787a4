use Rattle.tam_graph.specs.declared.kind.Kind.TheVariants.{Fetch}
use Rattle.tam_world.proofs.Unfed.{unfed}
use Rattle.tam_world.proofs.firings.fire_fetch.Goals as goal

pub returns-in-None : goal.returns-in-None
returns-in-None c = record {
  value = λ g. unfed g c.args.world.now c.args.at.activation c.args.at.node (Fetch c.args.array c.args.index) c.in-None.ensures.value;
}
