use Rattle.std.proofs.Common.{◌≡◌, ◌≤◌, length, ap, arith}
use Rattle.tam_graph.proofs.FewBlocks.{few-blocks}
use Rattle.tam_list.proofs.counting.blocks_in.Goals as goal

pub overflow_cast-result : goal.overflow_cast-result
overflow_cast-result c =
    let few : length c.args.code.now.owners ≤ 2049 = few-blocks c.requires.of_text.0 c.args.code.now c.requires.of_text.2.written in
    let same : length c.owners.result.now ≡ length c.args.code.now.owners = ap length c.owners.ensures.value in
    omega arith

pub returns-clause-few : goal.returns-clause-few
returns-clause-few c =
    let few : length c.args.code.now.owners ≤ 2049 = few-blocks c.requires.of_text.0 c.args.code.now c.requires.of_text.2.written in
    let same : length c.owners.result.now ≡ length c.args.code.now.owners = ap length c.owners.ensures.value in
    omega arith
