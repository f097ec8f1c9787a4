use Rattle.tam_graph.specs.declared.kind.Kind.TheVariants.{Arg}
use Rattle.tam_world.proofs.Unfed.{unfed}
use Rattle.tam_world.proofs.firings.fire_arg.Goals as goal

pub returns-in-None : goal.returns-in-None
returns-in-None c = record {
  value = unfed c.args.program.now c.args.world.now c.args.at.activation c.args.at.node (Arg c.args.call c.args.place c.args.a) c.in-None.ensures.value;
}
