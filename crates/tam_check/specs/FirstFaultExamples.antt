-- What is told of small graphs, each worked by hand from the rules.
-- The rule in words: docs/FORMATS.md, "Which graphs are accepted".
use Rattle.std.specs.Prelude.{ℕ, ◌≡◌, refl, List, [], ◌∷◌, Some, None, map, codes}
use Rattle.tam_word.specs.declared.op.Op.TheVariants.{Add}
use Rattle.tam_graph.specs.declared.kind.Kind.{Kind}
use Rattle.tam_graph.specs.declared.kind.Kind.TheVariants.{Param, Const, Op as Operate, Call, Arg, Ret, Give, Alloc, Fetch, Cond, Switch, Merge, Enter, Leave}
use Rattle.tam_graph.specs.declared.node.Node.{Node}
use Rattle.tam_graph.specs.declared.place.Place.TheVariants.{File, Node as At}
use Rattle.tam_graph.specs.declared.check_cause.CheckCause.TheVariants.{NoMain, WrongBlock, PlaceTwice, PlaceRange, PlaceMissing, DepthMismatch}
use Rattle.tam_graph.specs.declared.check_cause.CheckCause.TheVariants.{MainType, Cycle}
use Rattle.tam_graph.specs.Graphs.{Graph, main_name}
use Rattle.tam_graph.specs.ExampleGraphs.{plain, deep, loop_graph, back_graph, seq_graph}
use Rattle.tam_check.specs.FirstFault.{first_fault}

-- a graph of one code without conds, of such depths and kinds
abbrev pub simple : List (ℕ × Kind) → Graph
simple ks = record { codes = record { name = main_name; nodes = map (λ k. deep k.0 k.1) ks; owners = None ∷ [] } ∷ []; main = 0 }

-- a graph of one code whose node 1 is a cond over blocks 1 and 2
abbrev pub branching : List Node → Graph
branching nodes = record {
  codes = record {
    name = main_name;
    nodes = plain 0 (Const 1) ∷ plain 0 (Cond 0 1 2) ∷ nodes;
    owners = None ∷ Some 1 ∷ Some 1
        ∷ [];
  } ∷ [];
  main = 0;
}

-- a graph of `main` and a code that it calls
abbrev pub calling : List Kind → List (ℕ × Kind) → Graph
calling caller callee = record {
  codes = record { name = main_name; nodes = map (plain 0) caller; owners = None ∷ [] }
      ∷ record { name = codes "f"; nodes = map (λ k. deep k.0 k.1) callee; owners = None ∷ [] } ∷ [];
  main = 0;
}

-- nothing is told of what is accepted
accepted : map first_fault (loop_graph ∷ back_graph ∷ seq_graph ∷ simple [] ∷ []) ≡ None ∷ None ∷ None ∷ None ∷ []
accepted = refl

-- no code is named `main`, whatever else is wrong
no_main : first_fault (record { codes = []; main = 0 }) ≡ Some (File, NoMain)
no_main = refl

-- a param and a result in a branch, an `in` in none, an operand from the other branch
wrong_blocks : map first_fault (branching (plain 1 (Param 0) ∷ []) ∷ branching (plain 2 (Give 0 0) ∷ []) ∷ branching (plain 0 (Enter 0) ∷ [])
    ∷ branching (plain 1 (Const 4) ∷ plain 2 (Operate Add 3 2) ∷ []) ∷ [])
    ≡ Some (At 0 2, WrongBlock) ∷ Some (At 0 2, WrongBlock) ∷ Some (At 0 2, WrongBlock) ∷ Some (At 0 3, WrongBlock) ∷ []
wrong_blocks = refl

-- the later of two nodes of one place is told; the same place of another interface is none
taken_places : map first_fault (simple ((0, Param 0) ∷ (0, Give 0 0) ∷ (0, Param 0) ∷ []) ∷ calling (Const 7 ∷ Call 1 ∷ Arg 1 0 0 ∷ Arg 1 0 0 ∷ [])
    ((0, Param 0) ∷ [])
    ∷ branching (plain 1 (Enter 0) ∷ plain 2 (Enter 0) ∷ plain 2 (Enter 0) ∷ plain 0 (Switch 1 0 0) ∷ []) ∷ [])
    ≡ Some (At 0 2, PlaceTwice) ∷ Some (At 0 3, PlaceTwice) ∷ Some (At 0 4, PlaceTwice) ∷ []
taken_places = refl

-- an `arg` by the params of its callee and not by its results, an `in` by the switches of its cond
far_places : map first_fault (simple ((0, Param 1) ∷ []) ∷ calling (Const 7 ∷ Call 1 ∷ Arg 1 1 0 ∷ Ret 1 0 ∷ Ret 1 1 ∷ [])
    ((0, Const 1) ∷ (0, Give 0 0) ∷ (0, Give 1 0) ∷ [])
    ∷ branching (plain 1 (Enter 0) ∷ []) ∷ [])
    ≡ Some (At 0 0, PlaceRange) ∷ Some (At 0 2, PlaceRange) ∷ Some (At 0 2, PlaceRange) ∷ []
far_places = refl

-- a call without an `arg` or without a `ret`, a cond with an `in` in one branch alone
lacking : map first_fault (calling (Call 1 ∷ []) ((0, Param 0) ∷ []) ∷ calling (Call 1 ∷ []) ((0, Const 1) ∷ (0, Give 0 0) ∷ [])
    ∷ branching (plain 1 (Enter 0) ∷ plain 0 (Switch 1 0 0) ∷ []) ∷ [])
    ≡ Some (At 0 0, PlaceMissing) ∷ Some (At 0 0, PlaceMissing) ∷ Some (At 0 1, PlaceMissing) ∷ []
lacking = refl

-- an operand that is an array, an `arg` for an array, an `out` for a merge that is one
depths : map first_fault (simple ((0, Const 1) ∷ (1, Alloc 0) ∷ (0, Operate Add 1 0) ∷ []) ∷ calling (Const 7 ∷ Call 1 ∷ Arg 1 0 0 ∷ []) ((1, Param 0) ∷ [])
    ∷ branching (plain 1 (Leave 0 2) ∷ []) ∷ branching
    (plain 1 (Const 3) ∷ plain 1 (Leave 0 2) ∷ plain 2 (Const 3) ∷ plain 2 (Leave 0 4) ∷ deep 1 (Merge 1 0) ∷ []) ∷ [])
    ≡ Some (At 0 2, DepthMismatch) ∷ Some (At 0 2, DepthMismatch) ∷ Some (At 0 2, PlaceRange) ∷ Some (At 0 3, DepthMismatch) ∷ []
depths = refl

-- an array into `main` and one out of it
main_types : map first_fault (simple ((1, Param 0) ∷ []) ∷ simple ((0, Const 1) ∷ (1, Alloc 0) ∷ (0, Give 0 1) ∷ []) ∷ [])
    ≡ Some (At 0 0, MainType) ∷ Some (At 0 2, MainType) ∷ []
main_types = refl

-- a cycle through two nodes stands at the lower; what is behind a cycle has none; an ask and its answer close none
cycles : map first_fault (simple ((0, Operate Add 1 1) ∷ (0, Operate Add 0 0) ∷ (0, Give 0 0) ∷ []) ∷ simple
    ((0, Operate Add 1 1) ∷ (0, Operate Add 1 1) ∷ [])
    ∷ simple ((0, Const 1) ∷ (1, Alloc 0) ∷ (0, Fetch 1 3) ∷ (0, Operate Add 2 2) ∷ (0, Give 0 3) ∷ []) ∷ [])
    ≡ Some (At 0 0, Cycle) ∷ Some (At 0 1, Cycle) ∷ None ∷ []
cycles = refl
