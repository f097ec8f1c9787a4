use Rattle.std.proofs.Common.{sym, ◌∙◌}
use Rattle.tam_graph.specs.declared.kind.Kind.TheVariants.{Cond, Switch as Choose}
use Rattle.tl0_emit.proofs.StandingCounts.{branches-behind}
use Rattle.tl0_emit.proofs.SwitchNodes.{switch-names}
use Rattle.tl0_emit.proofs.code_tables.CodeTables.push_connectors.Goals as goal

pub cond_connector-requires-clause-into : goal.cond_connector-requires-clause-into
cond_connector-requires-clause-into c =
    (branches-behind c.args.self.now c.kind.ensures.code c.args.node (Cond c.in-Cond.test c.in-Cond.yes c.in-Cond.no)
    (sym c.kind.ensures.value ∙ c.in-Cond.is)).0.1

pub cond_connector-requires-clause-other : goal.cond_connector-requires-clause-other
cond_connector-requires-clause-other c =
    (branches-behind c.args.self.now c.kind.ensures.code c.args.node (Cond c.in-Cond.test c.in-Cond.yes c.in-Cond.no)
    (sym c.kind.ensures.value ∙ c.in-Cond.is)).1.1

pub cond_connector-requires-in-Cond-clause-into : goal.cond_connector-requires-in-Cond-clause-into
cond_connector-requires-in-Cond-clause-into c =
    (branches-behind c.args.self.now c.kind.ensures.code c.args.node (Cond c.in-Cond.test c.in-Cond.yes c.in-Cond.no)
    (sym c.kind.ensures.value ∙ c.in-Cond.is)).1.1

pub cond_connector-requires-in-Cond-clause-other : goal.cond_connector-requires-in-Cond-clause-other
cond_connector-requires-in-Cond-clause-other c =
    (branches-behind c.args.self.now c.kind.ensures.code c.args.node (Cond c.in-Cond.test c.in-Cond.yes c.in-Cond.no)
    (sym c.kind.ensures.value ∙ c.in-Cond.is)).0.1

pub switch_connector-requires : goal.switch_connector-requires
switch_connector-requires c = record {
  in_range = (switch-names c.args.self.now c.kind.ensures.code c.args.node (Choose c.in-Switch.cond c.in-Switch.place c.in-Switch.a)
      (sym c.kind.ensures.value ∙ c.in-Switch.is)).1;
}

pub switch_connector-requires-in-Switch : goal.switch_connector-requires-in-Switch
switch_connector-requires-in-Switch c = record {
  in_range = (switch-names c.args.self.now c.kind.ensures.code c.args.node (Choose c.in-Switch.cond c.in-Switch.place c.in-Switch.a)
      (sym c.kind.ensures.value ∙ c.in-Switch.is)).1;
}
