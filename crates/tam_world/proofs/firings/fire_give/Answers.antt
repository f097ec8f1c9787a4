use Rattle.tam_graph.specs.declared.kind.Kind.TheVariants.{Give}
use Rattle.tam_world.proofs.Unfed.{unfed}
use Rattle.tam_world.proofs.firings.fire_give.Goals as goal

pub returns-in-None : goal.returns-in-None
returns-in-None c = record {
  value = unfed c.args.program.now c.args.world.now c.args.at.activation c.args.at.node (Give c.args.place c.args.a) c.in-None.ensures.value;
}
