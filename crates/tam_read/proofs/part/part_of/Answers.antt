use Rattle.std.proofs.Common.{◌≡◌, map, refl, sym, ap, subst, ◌∙◌}
use Rattle.tam_read.specs.Naming.{Known, faults_within}
use Rattle.tam_read.specs.Tables.{table}
use Rattle.tam_read.specs.Parts.{known_in}
use Rattle.tam_read.specs.BuildingView.{built_so_far}
use Rattle.tam_read.specs.LineView.{numbered}
use Rattle.tam_read.specs.Refusals.{IsFirst}
use Rattle.tam_read.proofs.Pieces.{known-is, part-is}
use Rattle.tam_read.proofs.part.part_of.Goals as goal

pub returns-in-Ok-clause-ok : goal.returns-in-Ok-clause-ok
returns-in-Ok-clause-ok c =
    let codes = table c.args.codes.now in
    let k : Known = record { nodes = table c.in_ok-nodes.nodes; codes = codes } in
    let is = known-is codes (table c.in_ok-nodes.nodes) c.args.body.now k refl c.in_ok-nodes.ensures.value in
    part-is codes c.args.line.now c.args.body.now k c.name_of.result.now (built_so_far c.in-Ok.built) c.in_ok-node_lines-in-Ok.field-0.items is
    c.name_of.ensures.value c.in-Ok.ensures.ok c.in_ok-node_lines-in-Ok.ensures.value

pub returns-in-Ok-clause-faultless : goal.returns-in-Ok-clause-faultless
returns-in-Ok-clause-faultless c =
    let codes = table c.args.codes.now in
    let k : Known = record { nodes = table c.in_ok-nodes.nodes; codes = codes } in
    let is = known-is codes (table c.in_ok-nodes.nodes) c.args.body.now k refl c.in_ok-nodes.ensures.value in
    ap (λ q. faults_within q (map numbered c.args.body.now)) (sym is) ∙ c.in-Ok.ensures.faultless

pub returns-clause-refused : goal.returns-clause-refused
returns-clause-refused c =
    let codes = table c.args.codes.now in
    let k : Known = record { nodes = table c.in_ok-nodes.nodes; codes = codes } in
    let is = known-is codes (table c.in_ok-nodes.nodes) c.args.body.now k refl c.in_ok-nodes.ensures.value in
    subst (λ q. IsFirst (faults_within q (map numbered c.args.body.now)) c.in-Err.refused) is c.in-Err.ensures.refused
