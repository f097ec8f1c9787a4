use Rattle.std.proofs.Common.{◌≡◌, [], map, subst}
use Rattle.std.specs.Prelude.{IfOk, OnOk, IfErr}
use Rattle.tam_read.specs.LineView.{numbered}
use Rattle.tam_read.specs.PartView.{part}
use Rattle.tam_read.specs.Parts.{pieces, part_made, faults_of_pieces}
use Rattle.tam_read.specs.Refusals.{IsFirst}
use Rattle.tam_read.specs.Tables.{table}
use Rattle.tam_read.proofs.Refusing.{codes-known}
use Rattle.tam_read.proofs.refusal.second_pass.Goals as goal

pub returns-clause-ok : goal.returns-clause-ok
returns-clause-ok c =
    let qs = pieces (map numbered c.args.lines.now) in
    let is = codes-known (table c.in_ok-codes.codes) c.args.lines.now c.in_ok-codes.ensures.value in
    subst (λ es. IfOk c.parts_of.result (λ ps. map part ps.items ≡ map (part_made es) qs)) is c.parts_of.ensures.ok

pub returns-clause-faultless : goal.returns-clause-faultless
returns-clause-faultless c =
    let qs = pieces (map numbered c.args.lines.now) in
    let is = codes-known (table c.in_ok-codes.codes) c.args.lines.now c.in_ok-codes.ensures.value in
    subst (λ es. OnOk c.parts_of.result (faults_of_pieces es qs ≡ [])) is c.parts_of.ensures.faultless

pub returns-clause-refused : goal.returns-clause-refused
returns-clause-refused c =
    let qs = pieces (map numbered c.args.lines.now) in
    let is = codes-known (table c.in_ok-codes.codes) c.args.lines.now c.in_ok-codes.ensures.value in
    subst (λ es. IfErr c.parts_of.result (IsFirst (faults_of_pieces es qs))) is c.parts_of.ensures.refused
