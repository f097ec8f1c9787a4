-- The ladder's graph.
use Rattle.std.specs.Prelude.{ℕ, ◌+◌, nat_lt, Bool, true, false, List, [], ◌∷◌, ◌++◌, map, Some, None, codes}
use Rattle.tam_word.specs.Lists.{below}
use Rattle.tam_word.specs.declared.op.Op.TheVariants.{Add}
use Rattle.tam_graph.specs.declared.kind.Kind.{Kind}
use Rattle.tam_graph.specs.declared.kind.Kind.TheVariants.{Param, Const, Op as Operate, Call, Arg, Ret, Give}
use Rattle.tam_graph.specs.declared.node.Node.{Node}
use Rattle.tam_graph.specs.Graphs.{Code, Graph, main_name}
use Rattle.tam_make.proofs.Digits.{digits}

-- a node of the body, with a name and a word
abbrev pub named : List ℕ → Kind → Node
named name k = record { name = Some name; depth = 0; block = 0; kind = k }

-- a node of the body, without a name
abbrev pub unnamed : Kind → Node
unnamed k = record { name = None; depth = 0; block = 0; kind = k }

-- the name of code k
abbrev pub step_name : ℕ → List ℕ
step_name k = codes "s" ++ digits k

-- the node that adds once more
abbrev pub rung : ℕ → Node
rung i = named (codes "a" ++ digits (i + 2)) (Operate Add (i + 2) 1)

-- how code k ends: it calls the next one, or is the last
abbrev pub step_end : Bool → ℕ → List Node
step_end true k = named (codes "f") (Call (k + 1)) ∷ unnamed (Arg 102 0 101) ∷ named (codes "r") (Ret 102 0) ∷ unnamed (Give 0 104) ∷ []
step_end false k = unnamed (Give 0 101) ∷ []

-- code k, under a name
abbrev pub step_called : List ℕ → Bool → ℕ → Code
step_called name more k = record {
  name = name;
  nodes = named (codes "x") (Param 0) ∷ named (codes "k") (Const k) ∷ named (codes "a1") (Operate Add 0 1) ∷ map rung (below 99) ++ step_end more k;
  owners = None ∷ [];
}

-- code k
abbrev pub step : Bool → ℕ → Code
step more k = step_called (step_name k) more k

-- `main`
abbrev pub main_code : Code
main_code = record {
  name = main_name;
  nodes =
      named (codes "x") (Param 0) ∷ named (codes "f") (Call 1) ∷ unnamed (Arg 1 0 0) ∷ named (codes "r") (Ret 1 0) ∷ unnamed (Give 0 3) ∷ [];
  owners = None ∷ [];
}

-- code i + 1 of n
abbrev pub step_of : ℕ → ℕ → Code
step_of n i = step (nat_lt (i + 1) n) (i + 1)

-- the graph
abbrev pub ladder_graph : ℕ → Graph
ladder_graph n = record { codes = main_code ∷ map (step_of n) (below n); main = 0 }
