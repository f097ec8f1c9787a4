-- Partitions and demands of small blocks, by computation.
use Rattle.std.specs.Prelude.{◌≡◌, refl, [], ◌∷◌, None, true, false, map, length}
use Rattle.tam_word.specs.declared.op.Op.TheVariants.{Add}
use Rattle.tam_graph.specs.declared.kind.Kind.TheVariants.{Const, Op as Operate, Give, Alloc, Fetch}
use Rattle.tam_graph.specs.Graphs.{Code, main_name}
use Rattle.tam_graph.specs.Edges.{has_no_cycle}
use Rattle.tam_graph.specs.Written.{number_of_vertices}
use Rattle.tam_graph.specs.Accepted.{on_cycle}
use Rattle.tam_split.specs.Blocks.{block_graph, demands}
use Rattle.tam_split.specs.Partitions.{partition_of, is_valid}
use Rattle.tam_graph.specs.ExampleGraphs.{deep, sum_main, back_main, back_callee, loop_main}

sum_one_class : partition_of (block_graph sum_main 0) ≡ (0 ∷ 1 ∷ 2 ∷ 3 ∷ []) ∷ []
sum_one_class = refl

back_callee_classes : partition_of (block_graph back_callee 0) ≡ (0 ∷ 2 ∷ 3 ∷ 5 ∷ []) ∷ (1 ∷ 4 ∷ 6 ∷ []) ∷ []
back_callee_classes = refl

back_main_classes : partition_of (block_graph back_main 0) ≡ (0 ∷ 3 ∷ []) ∷ (1 ∷ []) ∷ (2 ∷ []) ∷ (4 ∷ 5 ∷ []) ∷ (6 ∷ 7 ∷ []) ∷ []
back_main_classes = refl

loop_classes : partition_of (block_graph loop_main 0) ≡ (0 ∷ 2 ∷ []) ∷ (1 ∷ 3 ∷ []) ∷ (4 ∷ 5 ∷ []) ∷ (6 ∷ 7 ∷ []) ∷ []
loop_classes = refl

-- one class of all would wait for itself
back_callee_whole : is_valid (block_graph back_callee 0) ((0 ∷ 1 ∷ 2 ∷ 3 ∷ 4 ∷ 5 ∷ 6 ∷ []) ∷ []) ≡ false
back_callee_whole = refl

back_callee_dem : map (demands (block_graph back_callee 0)) (0 ∷ 1 ∷ 2 ∷ []) ≡ (5 ∷ 6 ∷ []) ∷ (6 ∷ []) ∷ (5 ∷ 6 ∷ []) ∷ []
back_callee_dem = refl

-- two nodes that take each other's value: the block has a cycle, and the least node on it is the first
abbrev pub cyclic : Code
cyclic = record { name = main_name; nodes = deep 0 (Operate Add 1 1) ∷ deep 0 (Operate Add 0 0) ∷ deep 0 (Give 0 0) ∷ []; owners = None ∷ [] }

cyclic_both : (has_no_cycle (block_graph cyclic 0).edges ≡ false) × (on_cycle cyclic 0 ≡ 0 ∷ [])
cyclic_both = (refl, refl)

-- a fetch that feeds its own index: there is no edge from an ask to its answer
abbrev pub fed_by_itself : Code
fed_by_itself = record {
  name = main_name;
  nodes = deep 0 (Const 1) ∷ deep 1 (Alloc 0) ∷ deep 0 (Fetch 1 3) ∷ deep 0 (Operate Add 2 2) ∷ deep 0 (Give 0 2) ∷ [];
  owners = None ∷ [];
}

fed_by_itself_both : (has_no_cycle (block_graph fed_by_itself 0).edges ≡ true) × (on_cycle fed_by_itself 0 ≡ [])
fed_by_itself_both = (refl, refl)

-- the vertices are counted as they stand
vertices_counted : (number_of_vertices back_main 0 ≡ length (block_graph back_main 0).vertices)
    × (map (number_of_vertices loop_main) (0 ∷ 1 ∷ 2 ∷ []) ≡ map (λ b. length (block_graph loop_main b).vertices) (0 ∷ 1 ∷ 2 ∷ []))
vertices_counted = (refl, refl)
