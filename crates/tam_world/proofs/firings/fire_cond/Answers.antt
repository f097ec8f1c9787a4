use Rattle.tam_graph.specs.declared.kind.Kind.TheVariants.{Cond}
use Rattle.tam_world.proofs.Unfed.{unfed}
use Rattle.tam_world.proofs.firings.fire_cond.Goals as goal

pub returns-in-None : goal.returns-in-None
returns-in-None c = record {
  value = unfed c.args.program.now c.args.world.now c.args.at.activation c.args.at.node (Cond c.args.test c.args.yes c.args.no) c.in-None.ensures.value;
}
