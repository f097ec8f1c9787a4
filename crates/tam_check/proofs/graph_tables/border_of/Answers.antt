use Rattle.std.proofs.Common.{arith}
use Rattle.tam_check.specs.declared.interface.Interface.TheVariants.{Params, Results}
use Rattle.tam_check.proofs.Far.{shows-all}
use Rattle.tam_check.proofs.graph_tables.border_of.Goals as goal

pub returns : goal.returns
returns c =
    let code = c.args.code.now in
    let of_text = c.full.ensures.of_text in
    let is = c.in_ok-border.ensures.value in
    record {
      value = record {
        params = λ k. shows-all code of_text 2 c.in_ok-border.border.rows.items c.in_ok-border.border.seen.items is Params (λ x p l h. omega arith) k;
        results = λ k. shows-all code of_text 2 c.in_ok-border.border.rows.items c.in_ok-border.border.seen.items is Results (λ x p l h. omega arith) k;
      };
    }
