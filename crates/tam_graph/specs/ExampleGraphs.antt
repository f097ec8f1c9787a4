-- Small graphs, as the examples use them.
use Rattle.std.specs.Prelude.{ℕ, [], ◌∷◌, Some, None, map}
use Rattle.tam_word.specs.declared.op.Op.TheVariants.{Add}
use Rattle.tam_graph.specs.declared.kind.Kind.{Kind}
use Rattle.tam_graph.specs.declared.kind.Kind.TheVariants.{Param, Const, Op as Operate, Seq, Call, Arg, Ret, Give, Alloc, Fetch, Store, Cond, Switch, Merge}
use Rattle.tam_graph.specs.declared.kind.Kind.TheVariants.{Enter, Leave}
use Rattle.tam_graph.specs.declared.node.Node.{Node}
use Rattle.tam_graph.specs.Graphs.{Code, Graph, main_name}

-- a node of block b with a word
abbrev pub plain : ℕ → Kind → Node
plain b k = record { name = None; depth = 0; block = b; kind = k }

-- a node of block 0 with depth d
abbrev pub deep : ℕ → Kind → Node
deep d k = record { name = None; depth = d; block = 0; kind = k }

-- a = param 0 / b = param 1 / s = add a b / result 0 s
abbrev pub sum_main : Code
sum_main = record { name = main_name; nodes = map (plain 0) (Param 0 ∷ Param 1 ∷ Operate Add 0 1 ∷ Give 0 2 ∷ []); owners = None ∷ [] }

-- a graph of this code
abbrev pub sum_graph : Graph
sum_graph = record { codes = sum_main ∷ []; main = 0 }

-- the caller of a code whose second param is its own first result
abbrev pub back_main : Code
back_main = record {
  name = main_name;
  nodes = map (plain 0) (Param 0 ∷ Call 1 ∷ Arg 1 0 0 ∷ Ret 1 0 ∷ Arg 1 1 3 ∷ Ret 1 1 ∷ Give 0 5 ∷ []);
  owners = None ∷ [];
}

-- that code: two params and two results
abbrev pub back_callee : Code
back_callee = record {
  name = main_name;
  nodes = map (plain 0) (Param 0 ∷ Param 1 ∷ Const 1 ∷ Operate Add 0 2 ∷ Operate Add 1 3 ∷ Give 0 3 ∷ Give 1 4 ∷ []);
  owners = None ∷ [];
}

-- a graph of both
abbrev pub back_graph : Graph
back_graph = record { codes = back_main ∷ back_callee ∷ []; main = 0 }

-- a merge feeds a switch of its own cond
abbrev pub loop_main : Code
loop_main = record {
  name = main_name;
  nodes =
      plain 0 (Param 0) ∷ plain 0 (Param 1) ∷ plain 0 (Cond 0 1 2)
      ∷ plain 1 (Enter 0) ∷ plain 1 (Enter 1) ∷ plain 1 (Const 1) ∷ plain 1 (Operate Add 3 5) ∷ plain 1 (Operate Add 4 6)
      ∷ plain 1 (Leave 0 6) ∷ plain 1 (Leave 1 7)
      ∷ plain 2 (Enter 0) ∷ plain 2 (Enter 1) ∷ plain 2 (Leave 0 10) ∷ plain 2 (Leave 1 11)
      ∷ plain 0 (Switch 2 0 1) ∷ plain 0 (Merge 2 0) ∷ plain 0 (Switch 2 1 15) ∷ plain 0 (Merge 2 1) ∷ plain 0 (Give 0 17) ∷ [];
  owners = None ∷ Some 2 ∷ Some 2 ∷ [];
}

-- a graph of this code
abbrev pub loop_graph : Graph
loop_graph = record { codes = loop_main ∷ []; main = 0 }

-- a fetch of a cell that another fetch or store may come before
abbrev pub cell_graph : Graph
cell_graph = record {
  codes = record {
    name = main_name;
    nodes = deep 0 (Param 0) ∷ deep 0 (Const 1) ∷ deep 1 (Alloc 1) ∷ deep 0 (Const 0) ∷ deep 0 (Fetch 2 3) ∷ deep 0 (Store 2 3 0) ∷ deep 0 (Give 0 4) ∷ [];
    owners = None ∷ [];
  } ∷ [];
  main = 0;
}

-- two stores into one cell
abbrev pub twice_graph : Graph
twice_graph = record {
  codes = record {
    name = main_name;
    nodes =
        deep 0 (Param 0) ∷ deep 0 (Const 1) ∷ deep 1 (Alloc 1) ∷ deep 0 (Const 0)
        ∷ deep 0 (Store 2 3 0) ∷ deep 0 (Store 2 3 1) ∷ deep 0 (Fetch 2 3) ∷ deep 0 (Give 0 6) ∷ [];
    owners = None ∷ [];
  } ∷ [];
  main = 0;
}

-- main calls itself
abbrev pub calls_itself : Graph
calls_itself = record { codes = record { name = main_name; nodes = deep 0 (Call 0) ∷ []; owners = None ∷ [] } ∷ []; main = 0 }

-- a code without nodes
abbrev pub nothing_graph : Graph
nothing_graph = record { codes = record { name = main_name; nodes = []; owners = None ∷ [] } ∷ []; main = 0 }

-- x = param 0 / n = const 1 / A:1 = alloc n / z = const 0 / v = fetch A z / store A z x / s = seq v A / result 0 s
abbrev pub seq_graph : Graph
seq_graph = record {
  codes = record {
    name = main_name;
    nodes =
        deep 0 (Param 0) ∷ deep 0 (Const 1) ∷ deep 1 (Alloc 1) ∷ deep 0 (Const 0)
        ∷ deep 0 (Fetch 2 3) ∷ deep 0 (Store 2 3 0) ∷ deep 0 (Seq 4 2) ∷ deep 0 (Give 0 6) ∷ [];
    owners = None ∷ [];
  } ∷ [];
  main = 0;
}
