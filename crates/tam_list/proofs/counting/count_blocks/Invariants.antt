use Rattle.std.proofs.Common.{◌≡◌, ◌≤◌, ◌*◌, length, sum_by}
use Rattle.tam_word.specs.Lists.{below}
use Rattle.tam_graph.specs.Graphs.{code_of, blocks_of}
use Rattle.tam_list.proofs.counting.count_blocks.Given as goal

abbrev pub invariant-loop-code : goal.invariant-loop-code
invariant-loop-code l = (l.count ≡ sum_by (λ n. length (blocks_of (code_of l.graph n))) (below l.code)) × (l.count ≤ 2049 * l.code)
