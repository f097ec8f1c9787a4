-- The wave's graph.
use Rattle.std.specs.Prelude.{ℕ, List, [], ◌∷◌, Some, None, codes}
use Rattle.tam_word.specs.declared.op.Op.TheVariants.{Add, Sub, Mul, Sltu}
use Rattle.tam_graph.specs.declared.kind.Kind.{Kind}
use Rattle.tam_graph.specs.declared.kind.Kind.TheVariants.{Param, Const, Op as Operate, Call, Arg, Give, Alloc, Fetch, Store, Cond, Switch, Merge}
use Rattle.tam_graph.specs.declared.kind.Kind.TheVariants.{Enter, Leave}
use Rattle.tam_graph.specs.declared.node.Node.{Node}
use Rattle.tam_graph.specs.Graphs.{Code, Graph}

-- a node with a name and a depth
abbrev named : List ℕ → ℕ → ℕ → Kind → Node
named name d b k = record { name = Some name; depth = d; block = b; kind = k }

-- a node without a name
abbrev unnamed : ℕ → Kind → Node
unnamed b k = record { name = None; depth = 0; block = b; kind = k }

-- its `main`
abbrev pub main_code : Code
main_code = record {
  name = codes "main";
  nodes =
      named (codes "n") 0 0 (Param 0) ∷ named (codes "B") 2 0 (Alloc 0) ∷ named (codes "z") 0 0 (Const 0) ∷ named (codes "r") 0 0 (Call 1)
      ∷ unnamed 0 (Arg 3 0 1) ∷ unnamed 0 (Arg 3 1 0) ∷ unnamed 0 (Arg 3 2 2) ∷ named (codes "one") 0 0 (Const 1)
      ∷ named (codes "l") 0 0 (Operate Sub 0 7) ∷ named (codes "A") 1 0 (Fetch 1 8) ∷ named (codes "v") 0 0 (Fetch 9 8) ∷ unnamed 0 (Give 0 10) ∷ [];
  owners = None ∷ [];
}

-- its code of a row
abbrev pub rows_code : Code
rows_code = record {
  name = codes "rows";
  nodes =
      named (codes "B") 2 0 (Param 0) ∷ named (codes "n") 0 0 (Param 1) ∷ named (codes "i") 0 0 (Param 2)
      ∷ named (codes "more") 0 0 (Operate Sltu 2 1) ∷ named (codes "c") 0 0 (Cond 3 1 2) ∷ named (codes "b") 2 1 (Enter 0)
      ∷ named (codes "m") 0 1 (Enter 1) ∷ named (codes "k") 0 1 (Enter 2) ∷ named (codes "R") 1 1 (Alloc 6) ∷ unnamed 1 (Store 5 7 8)
      ∷ named (codes "z") 0 1 (Const 0) ∷ named (codes "q") 0 1 (Call 2) ∷ unnamed 1 (Arg 11 0 5) ∷ unnamed 1 (Arg 11 1 8)
      ∷ unnamed 1 (Arg 11 2 6) ∷ unnamed 1 (Arg 11 3 7) ∷ unnamed 1 (Arg 11 4 10) ∷ named (codes "one") 0 1 (Const 1)
      ∷ named (codes "k1") 0 1 (Operate Add 7 17) ∷ named (codes "t") 0 1 (Call 1) ∷ unnamed 1 (Arg 19 0 5) ∷ unnamed 1 (Arg 19 1 6)
      ∷ unnamed 1 (Arg 19 2 18) ∷ named (codes "b0") 2 2 (Enter 0) ∷ named (codes "m0") 0 2 (Enter 1) ∷ named (codes "k0") 0 2 (Enter 2)
      ∷ unnamed 0 (Switch 4 0 0) ∷ unnamed 0 (Switch 4 1 1) ∷ unnamed 0 (Switch 4 2 2) ∷ [];
  owners = None ∷ Some 4 ∷ Some 4 ∷ [];
}

-- its code of a cell
abbrev pub cols_code : Code
cols_code = record {
  name = codes "cols";
  nodes =
      named (codes "B") 2 0 (Param 0) ∷ named (codes "R") 1 0 (Param 1) ∷ named (codes "n") 0 0 (Param 2) ∷ named (codes "i") 0 0 (Param 3)
      ∷ named (codes "j") 0 0 (Param 4) ∷ named (codes "more") 0 0 (Operate Sltu 4 2) ∷ named (codes "c") 0 0 (Cond 5 1 4)
      ∷ named (codes "b") 2 1 (Enter 0) ∷ named (codes "r") 1 1 (Enter 1) ∷ named (codes "m") 0 1 (Enter 2) ∷ named (codes "y") 0 1 (Enter 3)
      ∷ named (codes "x") 0 1 (Enter 4) ∷ named (codes "inner") 0 1 (Operate Mul 10 11) ∷ named (codes "d") 0 1 (Cond 12 2 3)
      ∷ named (codes "b1") 2 2 (Enter 0) ∷ named (codes "r1") 1 2 (Enter 1) ∷ named (codes "y1") 0 2 (Enter 2) ∷ named (codes "x1") 0 2 (Enter 3)
      ∷ named (codes "k1") 0 2 (Const 1) ∷ named (codes "up") 0 2 (Operate Sub 16 18) ∷ named (codes "U") 1 2 (Fetch 14 19)
      ∷ named (codes "u") 0 2 (Fetch 20 17) ∷ named (codes "left") 0 2 (Operate Sub 17 18) ∷ named (codes "w") 0 2 (Fetch 15 22)
      ∷ named (codes "s") 0 2 (Operate Add 21 23) ∷ unnamed 2 (Leave 0 24) ∷ named (codes "b2") 2 3 (Enter 0) ∷ named (codes "r2") 1 3 (Enter 1)
      ∷ named (codes "y2") 0 3 (Enter 2) ∷ named (codes "x2") 0 3 (Enter 3) ∷ named (codes "k2") 0 3 (Const 1) ∷ unnamed 3 (Leave 0 30)
      ∷ unnamed 1 (Switch 13 0 7) ∷ unnamed 1 (Switch 13 1 8) ∷ unnamed 1 (Switch 13 2 10) ∷ unnamed 1 (Switch 13 3 11)
      ∷ named (codes "v") 0 1 (Merge 13 0) ∷ unnamed 1 (Store 8 11 36) ∷ named (codes "k3") 0 1 (Const 1)
      ∷ named (codes "x3") 0 1 (Operate Add 11 38) ∷ named (codes "t") 0 1 (Call 2) ∷ unnamed 1 (Arg 40 0 7) ∷ unnamed 1 (Arg 40 1 8)
      ∷ unnamed 1 (Arg 40 2 9) ∷ unnamed 1 (Arg 40 3 10) ∷ unnamed 1 (Arg 40 4 39) ∷ named (codes "b4") 2 4 (Enter 0)
      ∷ named (codes "r4") 1 4 (Enter 1) ∷ named (codes "n4") 0 4 (Enter 2) ∷ named (codes "i4") 0 4 (Enter 3) ∷ named (codes "j4") 0 4 (Enter 4)
      ∷ unnamed 0 (Switch 6 0 0) ∷ unnamed 0 (Switch 6 1 1) ∷ unnamed 0 (Switch 6 2 2) ∷ unnamed 0 (Switch 6 3 3) ∷ unnamed 0 (Switch 6 4 4) ∷ [];
  owners = None ∷ Some 6 ∷ Some 13 ∷ Some 13 ∷ Some 6 ∷ [];
}

-- the graph
abbrev pub wave_graph : Graph
wave_graph = record { codes = main_code ∷ rows_code ∷ cols_code ∷ []; main = 0 }
