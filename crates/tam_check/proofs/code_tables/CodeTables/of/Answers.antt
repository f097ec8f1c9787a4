use Rattle.std.proofs.Common.{◌+◌, ◌*◌, length}
use Rattle.tam_check.specs.Tables.{IsTable, AreSizes}
use Rattle.tam_check.proofs.Far.{shows-all, sizes-all, near-place}
use Rattle.tam_check.proofs.code_tables.CodeTables.of.Goals as goal

pub invariant_of-result : goal.invariant_of-result
invariant_of-result c =
    let code = c.args.code.now in
    let of_text = c.interface_count-interfaces.ensures.of_text in
    let all = c.interface_count-interfaces.ensures.value in
    let seen : IsTable code (length code.nodes) (8 * (length code.nodes + length code.owners)) c.in_ok-table.table.rows.items
    c.in_ok-table.table.seen.items = rw all at c.in_ok-table.ensures.value in
    let sizes : AreSizes code (length code.nodes) (8 *
    (length code.nodes + length code.owners)) c.in_ok-sizes.sizes.items = rw all at c.in_ok-sizes.ensures.value in
    record {
      tables = record {
        places = λ i k. shows-all code of_text _ c.in_ok-table.table.rows.items c.in_ok-table.table.seen.items seen i
            (λ x p l h. (near-place code of_text x l i p h).1) k;
        counts = λ i. sizes-all code of_text c.in_ok-sizes.sizes.items sizes i;
      };
    }
