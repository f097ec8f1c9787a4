use Rattle.std.proofs.Common.{◌≤◌, length, ap, arith}
use Rattle.tam_word.proofs.Tests.{below-test}
use Rattle.tl0_emit.specs.CodeParts.{its_code}
use Rattle.tam_graph.proofs.FewBlocks.{few-blocks}
use Rattle.tl0_emit.proofs.code_tables.CodeTables.blocks.Goals as goal

pub overflow_cast-result : goal.overflow_cast-result
overflow_cast-result c =
    let t = c.args.self.now in
    let code = c.code.ensures.code in
    let few : length (its_code t).owners ≤ 2049 = few-blocks (length t.graph.codes) (its_code t) (code.accepted.written t.code
    (below-test t.code (length t.graph.codes) code.there)) in
    let own = ap length c.owners.ensures.value in
    let same = ap (λ d. length d.owners) c.code.ensures.value in
    omega (arith, few, own, same)

pub returns-clause-few : goal.returns-clause-few
returns-clause-few c =
    let t = c.args.self.now in
    let code = c.code.ensures.code in
    let few : length (its_code t).owners ≤ 2049 = few-blocks (length t.graph.codes) (its_code t) (code.accepted.written t.code
    (below-test t.code (length t.graph.codes) code.there)) in
    let own = ap length c.owners.ensures.value in
    let same = ap (λ d. length d.owners) c.code.ensures.value in
    omega (arith, few, own, same)
