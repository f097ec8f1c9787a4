use Rattle.std.proofs.Common.{◌∙◌, sym, ◌==◌}
use Rattle.tam_graph.specs.Graphs.{code_of, block_at, kind_at, is_enter, node_numbers}
use Rattle.tam_world.proofs.FirstOf.{first_of-filter}
use Rattle.tam_world.proofs.finding.find_enter.Goals as goal

pub returns : goal.returns
returns c =
    let code = code_of c.args.program.now c.args.code in
    record {
      value = c.find_node.ensures.value
          ∙ sym (first_of-filter (λ x. block_at code x == c.args.block) (λ x. is_enter c.args.place (kind_at code x)) (node_numbers code));
    }
