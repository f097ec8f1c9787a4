use Rattle.std.proofs.Common.{◌≡◌, ◌≤◌, ◌∙◌, arith}
use Rattle.std.proofs.lemmas.List.{get_or_read}
use Rattle.tl0_keep.specs.Compiled.{place_in, choosing_nodes}
use Rattle.tl0_emit.specs.CodeParts.{its_code}
use Rattle.tl0_emit.specs.Tables.{code_tabled}
use Rattle.tl0_emit.proofs.TablesKept.{choices-long, choice-read, choice-few}
use Rattle.tl0_emit.proofs.InstrFacts.{nodes-few}
use Rattle.tl0_emit.proofs.code_tables.CodeTables.then_connector.Goals as goal

-- the number that was read
chosen : (c : goal.After-row_known-1) → c.index.result.now ≡ place_in (choosing_nodes (its_code (code_tabled c.self.inside))) c.args.node
chosen c =
    let l = rw (← c.self.view_is) at c.requires.in_range in
    let e = choices-long c.self.inside c.self.invariant in
    get_or_read c.self.inside.choices.items c.args.node c.index.result.now (omega (arith, l, e)) c.index.ensures 0
    ∙ choice-read c.self.inside c.self.invariant c.args.node l

-- it is at most 1,024
chosen-few : (c : goal.After-row_known-1) → c.index.result.now ≤ 1024
chosen-few c =
    let e = chosen c in
    let f = choice-few c.self.inside c.self.invariant c.args.node in
    let m = nodes-few (code_tabled c.self.inside) c.self.invariant.code in
    omega (arith, e, f, m)

pub index-requires : goal.index-requires
index-requires c =
    let l = rw (← c.self.view_is) at c.requires.in_range in
    let e = choices-long c.self.inside c.self.invariant in
    omega (arith, l, e, c.self.inside.choices.ok.0)

pub overflow_mul-result : goal.overflow_mul-result
overflow_mul-result c = let f = chosen-few c in omega (arith, f)

pub overflow_add-result : goal.overflow_add-result
overflow_add-result c = let f = chosen-few c in omega (arith, f, c.first_connector.ensures.few)

pub returns-clause-value : goal.returns-clause-value
returns-clause-value c = let e = chosen c in rw (← c.self.view_is) (omega (arith, e, c.first_connector.ensures.value))

pub returns-clause-few : goal.returns-clause-few
returns-clause-few c = let f = chosen-few c in omega (arith, f, c.first_connector.ensures.few)
