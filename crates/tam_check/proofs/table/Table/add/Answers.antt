use Rattle.std.proofs.Common.{◌≡◌, ◌∙◌, sym, Some, None}
use Rattle.tam_word.proofs.Tests.{both-true, test-below}
use Rattle.tam_graph.specs.Graphs.{block_at, kind_at}
use Rattle.tam_check.specs.Interfaces.{interface_of}
use Rattle.tam_check.specs.Tables.{number, row_at}
use Rattle.tam_check.proofs.Tabling.{table-none, table-untold, table-told}
use Rattle.tam_check.proofs.table.Table.add.Goals as goal

pub returns-in_default : goal.returns-in_default
returns-in_default c =
    let none : interface_of (block_at c.args.code.now c.args.x) (kind_at c.args.code.now c.args.x) ≡ None =
    rw (← c.block_at.ensures.value, ← c.kind_at.ensures.value) (sym c.of.ensures.value ∙ c.in_default.is) in
    record { after = table-none c.args.code.now c.args.x c.args.interfaces c.args.self.now.rows.items c.args.self.now.seen.items c.requires.before none }

pub returns-else-tells : goal.returns-else-tells
returns-else-tells c =
    let own : interface_of (block_at c.args.code.now c.args.x) (kind_at c.args.code.now c.args.x) ≡ Some (c.in-Some.interface, c.in-Some.place) =
    rw (← c.block_at.ensures.value, ← c.kind_at.ensures.value) (sym c.of.ensures.value ∙ c.in-Some.is) in
    record {
      after = table-untold c.args.code.now c.args.x c.args.interfaces c.args.self.now.rows.items c.args.self.now.seen.items c.requires.before
          c.in-Some.interface c.in-Some.place own (sym c.tells.ensures.value ∙ c.if-tells.false);
    }

pub returns-in_ok-row : goal.returns-in_ok-row
returns-in_ok-row c =
    let own : interface_of (block_at c.args.code.now c.args.x) (kind_at c.args.code.now c.args.x) ≡ Some (c.in-Some.interface, c.in-Some.place) =
    rw (← c.block_at.ensures.value, ← c.kind_at.ensures.value) (sym c.of.ensures.value ∙ c.in-Some.is) in
    let low = test-below _ _ (both-true _ _ (sym c.tells.ensures.value ∙ c.if-tells.true)).0 in
    let row : row_at c.row.new.self.rows.items (number c.in-Some.interface) ≡ Some c.in_ok-row.row = rw c.number.ensures.value at c.in_ok-row.ensures.value in
    let after = table-told c.args.code.now c.args.x c.args.interfaces c.row.new.self.rows.items c.row.new.self.seen.items c.in_ok-row.ensures.after
    c.in-Some.interface c.in-Some.place own low c.in_ok-row.row row in
    record { after = rw (c.with_depth-seen.ensures.value, c.look.ensures.value, c.handed_depth.ensures.value) after }
