-- What is found among the rows is what the standard's numbers say.
use Rattle.std.proofs.Common.{◌≡◌, ◌==◌, ◌∙◌, ap, rules, tests, Bor}
use Rattle.std.specs.Option.{option_map}
use Rattle.std.specs.List.{find}
use Rattle.std.proofs.lemmas.Iterator.{YieldsList-from_slice}
use Rattle.std.proofs.lemmas.Iterator.Search.{find_from_yields_List}
use Rattle.rv_inst.specs.declared.opcode.OpcodeRow.{OpcodeRow}
use Rattle.rv_inst.specs.declared.opcode.TheConstants.{OPCODE_ROWS}
use Rattle.rv_inst.proofs.Tables.{opcode_rows}
use Rattle.rv_inst.proofs.opcode.Opcode.of_code.Goals as goal

pub returns : goal.returns
returns c =
    let found : option_map (λ (r : Bor OpcodeRow). r.now) c.find.result ≡ find (λ row. row.code == c.args.code) OPCODE_ROWS =
    find_from_yields_List (λ row. row.code == c.args.code) _ _ c.find.result c.find.ensures.ran
    (YieldsList-from_slice OPCODE_ROWS (cc)) (λ x b q k. search (rules, tests)) in
    let named : c.map.result ≡ option_map (λ row. row.opcode) (option_map (λ (r : Bor OpcodeRow). r.now) c.find.result) = search (rules, tests) in
    record { value = named ∙ (ap (option_map (λ row. row.opcode)) found ∙ opcode_rows c.args.code) }
