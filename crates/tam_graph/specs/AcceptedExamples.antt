-- What the rules accept and refuse of small graphs, by computation.
use Rattle.std.specs.Prelude.{◌≡◌, ℕ, refl, List, [], ◌∷◌, None, map, true, zip}
use Rattle.tam_word.specs.declared.op.Op.TheVariants.{Add}
use Rattle.tam_graph.specs.declared.kind.Kind.{Kind}
use Rattle.tam_graph.specs.declared.kind.Kind.TheVariants.{Param, Const, Op as Operate, Call, Give, Alloc, Fetch}
use Rattle.tam_word.specs.Lists.{all_of}
use Rattle.tam_graph.specs.Graphs.{Graph, main_name, node_numbers, kind_at, blocks_of}
use Rattle.tam_graph.specs.declared.check_cause.CheckCause.TheVariants.{PlaceTwice as Place_twice, PlaceRange as Place_range, PlaceMissing as Place_missing}
use Rattle.tam_graph.specs.declared.check_cause.CheckCause.TheVariants.{DepthMismatch as Depth_mismatch, MainType as Main_type, Cycle}
use Rattle.tam_graph.specs.Accepted.{faults_of}
use Rattle.tam_graph.specs.Written.{in_file_order, in_opening_order, is_line, depth_of_block}
use Rattle.tam_graph.specs.ExampleGraphs.{plain, deep, sum_graph, back_graph, loop_graph, loop_main, cell_graph, twice_graph, calls_itself, nothing_graph}
use Rattle.tam_graph.specs.ExampleGraphs.{seq_graph}

none_refused : map faults_of (sum_graph ∷ back_graph ∷ loop_graph ∷ cell_graph ∷ twice_graph ∷ calls_itself ∷ nothing_graph ∷ seq_graph ∷ [])
    ≡ [] ∷ [] ∷ [] ∷ [] ∷ [] ∷ [] ∷ [] ∷ [] ∷ []
none_refused = refl

loop_is_written : (in_file_order 3 loop_main 0 ≡ node_numbers loop_main)
    × ((0, None) ∷ in_opening_order 3 loop_main 0 ≡ zip (blocks_of loop_main) loop_main.owners)
    × (all_of (λ x. is_line 1 loop_main (kind_at loop_main x)) (node_numbers loop_main) ≡ true)
loop_is_written = (refl, refl, refl)

-- a graph of one code, of such depths and kinds
abbrev pub one_code : List (ℕ × Kind) → Graph
one_code ks = record { codes = record { name = main_name; nodes = map (λ k. deep k.0 k.1) ks; owners = None ∷ [] } ∷ []; main = 0 }

refused : map faults_of (
    one_code ((1, Param 0) ∷ []) ∷ one_code ((0, Param 1) ∷ []) ∷ one_code ((0, Const 1) ∷ (0, Give 0 0) ∷ (0, Give 0 0) ∷ [])
    ∷ one_code ((0, Const 1) ∷ (1, Alloc 0) ∷ (0, Operate Add 1 0) ∷ []) ∷ one_code ((0, Operate Add 1 1) ∷ (0, Operate Add 0 0) ∷ (0, Give 0 0) ∷ []) ∷ [])
    ≡ ((0, 0, Main_type) ∷ []) ∷ ((0, 0, Place_range) ∷ []) ∷ ((0, 2, Place_twice) ∷ []) ∷ ((0, 2, Depth_mismatch) ∷ []) ∷ ((0, 0, Cycle) ∷ []) ∷ []
refused = refl

missing_arg : faults_of (record {
  codes = record { name = main_name; nodes = plain 0 (Call 1) ∷ []; owners = None ∷ [] } ∷ record {
    name = main_name;
    nodes = plain 0 (Param 0) ∷ [];
    owners = None ∷ [];
  } ∷ [];
  main = 0;
}) ≡ (0, 0, Place_missing) ∷ []
missing_arg = refl

-- an array's fetch may feed its own index: there is no edge from an ask to its answer
abbrev pub own_index : Graph
own_index = one_code ((0, Const 1) ∷ (1, Alloc 0) ∷ (0, Fetch 1 3) ∷ (0, Operate Add 2 2) ∷ (0, Give 0 2) ∷ [])

own_index_is_fine : faults_of own_index ≡ []
own_index_is_fine = refl

loop_is_shallow : map (depth_of_block 3 loop_main) (0 ∷ 1 ∷ 2 ∷ []) ≡ 0 ∷ 1 ∷ 1 ∷ []
loop_is_shallow = refl
