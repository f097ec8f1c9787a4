use Rattle.std.proofs.Common.{◌≡◌, subst, ◌++◌, ◌∷◌, [], length, add-one, arith}
use Rattle.tam_world.proofs.TableLists.{AreTablesBelow, tables-next, tables-all}
use Rattle.tam_world.proofs.program.tables_of.Goals as goal

pub loop-code-preserved : goal.loop-code-preserved
loop-code-preserved c =
    let longer : c.push.new.self.items ≡ c.loop-code.tables.items ++ c.in_ok-table.table ∷ [] = c.in_ok-push.ensures.items in
    rw (add-one, longer)
    (tables-next c.args.graph.now c.loop-code.tables.items c.loop-code.code c.in_ok-table.table c.loop-code.invariant c.in_ok-table.ensures.value)

pub returns : goal.returns
returns c =
    let all : c.loop-code.code ≡ length c.args.graph.now.codes = omega (arith, c.codes-code-end.ensures.value) in
    record {
      value = tables-all c.args.graph.now c.loop-code.tables.items
          (subst (AreTablesBelow c.args.graph.now c.loop-code.tables.items) all c.loop-code.invariant);
    }
