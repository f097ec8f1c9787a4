use Rattle.std.proofs.Common.{◌≡◌, ◌∙◌, ◌*◌, length, None, ap, sym, arith}
use Rattle.tam_check.specs.Tables.{row_at}
use Rattle.tam_check.proofs.Tabling.{table-row, row-new}
use Rattle.tam_check.proofs.table.Table.row.Goals as goal

pub returns-clause-after : goal.returns-clause-after
returns-clause-after c =
    let none : row_at c.args.self.now.rows.items c.args.number ≡ None = sym c.row_of.ensures.value ∙ c.in_default.is in
    let start : 64 * c.row_count-row.result ≡ length c.args.self.now.seen.items =
    let rows = c.row_count-row.ensures.value in
    let is = ap length c.deref.ensures.value in
    let whole = c.requires.before.whole in
    omega (arith, rows, is, whole) in
    rw c.in_ok-extend_from_slice.ensures.items
    (table-row c.args.code.now c.args.x c.args.interfaces c.args.self.now.rows.items c.args.self.now.seen.items c.requires.before
    c.args.number c.requires.in_range none c.row_count-row.result start)

pub returns-clause-value : goal.returns-clause-value
returns-clause-value c =
    let none : row_at c.args.self.now.rows.items c.args.number ≡ None = sym c.row_of.ensures.value ∙ c.in_default.is in
    let start : 64 * c.row_count-row.result ≡ length c.args.self.now.seen.items =
    let rows = c.row_count-row.ensures.value in
    let is = ap length c.deref.ensures.value in
    let whole = c.requires.before.whole in
    omega (arith, rows, is, whole) in
    row-new c.args.code.now c.args.x c.args.interfaces c.args.self.now.rows.items c.args.self.now.seen.items c.requires.before
    c.args.number c.requires.in_range none c.row_count-row.result start
