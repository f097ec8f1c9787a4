-- What is found among the rows is what the standard's numbers say.
use Rattle.std.proofs.Common.{◌≡◌, ◌==◌, ◌∙◌, ap, rules, tests, Bor}
use Rattle.std.specs.Option.{option_map}
use Rattle.std.specs.List.{find}
use Rattle.std.proofs.lemmas.Iterator.{YieldsList-from_slice}
use Rattle.std.proofs.lemmas.Iterator.Search.{find_from_yields_List}
use Rattle.rv_inst.specs.declared.store_name.StoreRow.{StoreRow}
use Rattle.rv_inst.specs.declared.store_name.TheConstants.{STORE_ROWS}
use Rattle.rv_inst.proofs.Tables.{store_rows}
use Rattle.rv_inst.proofs.store_name.StoreName.of_fields.Goals as goal

pub returns : goal.returns
returns c =
    let found : option_map (λ (r : Bor StoreRow). r.now) c.find.result ≡ find (λ row. row.funct3 == c.args.funct3) STORE_ROWS =
    find_from_yields_List (λ row. row.funct3 == c.args.funct3) _ _ c.find.result c.find.ensures.ran
    (YieldsList-from_slice STORE_ROWS (cc)) (λ x b q k. search (rules, tests)) in
    let named : c.map.result ≡ option_map (λ row. row.name) (option_map (λ (r : Bor StoreRow). r.now) c.find.result) = search (rules, tests) in
    record { value = named ∙ (ap (option_map (λ row. row.name)) found ∙ store_rows c.args.funct3) }
