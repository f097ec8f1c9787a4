-- The graph of the test is accepted, whatever its nodes are named.
use Rattle.std.proofs.Common.{◌≡◌, ℕ, zero, suc, ◌<◌, true, nat_lt, List, [], ◌∷◌, Some, None, refl, sym, subst, arith}
use Rattle.tam_word.specs.declared.op.Op.TheVariants.{Add}
use Rattle.tam_word.proofs.Tests.{test-below}
use Rattle.tam_graph.specs.declared.kind.Kind.{Kind}
use Rattle.tam_graph.specs.declared.kind.Kind.TheVariants.{Param, Const, Op as Operate, Give}
use Rattle.tam_graph.specs.declared.node.Node.{Node}
use Rattle.tam_graph.specs.Graphs.{Code, Graph, code_of, graph_of, main_name}
use Rattle.tam_graph.specs.Written.{IsWritten}
use Rattle.tam_graph.specs.Accepted.{IsAccepted}

-- a named node of block 0
abbrev pub named : List ℕ → Kind → Node
named name k = record { name = Some name; depth = 0; block = 0; kind = k }

-- a node without a name
abbrev pub nameless : Kind → Node
nameless k = record { name = None; depth = 0; block = 0; kind = k }

-- two params, a const, two sums and two results
abbrev pub example : (main a b one c d : List ℕ) → Code
example main a b one c d = record {
  name = main;
  nodes =
      named a (Param 0) ∷ named b (Param 1) ∷ named one (Const 1) ∷ named c (Operate Add 0 2) ∷ named d (Operate Add 1 3)
      ∷ nameless (Give 0 3) ∷ nameless (Give 1 4) ∷ [];
  owners = None ∷ [];
}

module _ (a b one c d : List ℕ) where
  abbrev graph : Graph
  graph = graph_of (example main_name a b one c d ∷ [])

  written : (n : ℕ) → nat_lt n 1 ≡ true → IsWritten 1 (code_of graph n)
  written zero h = record {
    nodes_in_order = refl;
    blocks_in_order = refl;
    lines = refl;
    depths = refl;
    shallow = refl;
    small_blocks = refl;
    small = refl;
  }
  written (suc n) h = let l : suc n < 1 = test-below (suc n) 1 h in absurd (omega arith)

  main-accepted : IsAccepted graph
  main-accepted = record { has_main = refl; few_codes = refl; written = written; no_fault = refl }

-- it is accepted
pub example-accepted : (main a b one c d : List ℕ) → main ≡ main_name → IsAccepted (graph_of (example main a b one c d ∷ []))
example-accepted main a b one c d e = subst (λ m. IsAccepted (graph_of (example m a b one c d ∷ []))) (sym e) (main-accepted a b one c d)
