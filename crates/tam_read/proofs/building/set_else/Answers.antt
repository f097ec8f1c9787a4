use Rattle.std.proofs.Common.{ap, sym, ◌∙◌}
use Rattle.std.proofs.Math.ListN.{set}
use Rattle.tam_word.proofs.ChangedAt.{changed_at-past}
use Rattle.tam_read.specs.Building.{with_else}
use Rattle.tam_read.proofs.Changed.{set-changed}
use Rattle.tam_read.proofs.building.set_else.Goals as goal

pub returns-then-cond-nodes : goal.returns-then-cond-nodes
returns-then-cond-nodes c = record {
  value = ap (set c.args.nodes.now c.args.cond) c.with_else-node.ensures.value
      ∙ set-changed c.args.nodes.now c.args.cond (with_else c.args.number) c.index-nodes-cond.result c.if-cond-nodes.true c.index-nodes-cond.is;
}

pub returns-else-cond-nodes : goal.returns-else-cond-nodes
returns-else-cond-nodes c = record { value = sym (changed_at-past c.args.cond (with_else c.args.number) c.args.nodes.now c.if-cond-nodes.false) }
