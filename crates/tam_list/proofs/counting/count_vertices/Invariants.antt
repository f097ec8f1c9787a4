use Rattle.std.proofs.Common.{◌≡◌, ◌≤◌, ◌*◌, sum_by}
use Rattle.tam_word.specs.Lists.{below}
use Rattle.tam_graph.specs.Graphs.{code_of}
use Rattle.tam_list.specs.Listings.{vertices_of_code}
use Rattle.tam_list.proofs.counting.count_vertices.Given as goal

abbrev pub invariant-loop-code : goal.invariant-loop-code
invariant-loop-code l = (l.count ≡ sum_by (λ n. vertices_of_code (code_of l.graph n)) (below l.code)) × (l.count ≤ 2048 * l.code)
