use Rattle.tam_graph.specs.declared.kind.Kind.TheVariants.{Leave}
use Rattle.tam_world.proofs.Unfed.{unfed}
use Rattle.tam_world.proofs.firings.fire_leave.Goals as goal

pub returns-in-None : goal.returns-in-None
returns-in-None c = record {
  value = unfed c.args.program.now c.args.world.now c.args.at.activation c.args.at.node (Leave c.args.place c.args.a) c.in-None.ensures.value;
}
