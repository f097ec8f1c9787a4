-- The graphs of the tests are accepted.
use Rattle.std.proofs.Common.{◌≡◌, ℕ, zero, suc, true, List, [], ◌∷◌, None, Some, nat_lt, slice_get, ◌<◌, ◌^◌, refl, arith, tests, length}
use Rattle.std.specs.Prelude.{codes}
use Rattle.tam_graph.specs.declared.node.Node.{Node}
use Rattle.tam_graph.specs.declared.kind.Kind.{Kind}
use Rattle.tam_graph.specs.declared.kind.Kind.TheVariants.{Param, Const, Op as Operate, Call, Arg, Ret, Give, Alloc, Fetch, Store}
use Rattle.tam_word.specs.declared.op.Op.TheVariants.{Add}
use Rattle.tam_graph.specs.Graphs.{Graph, AreArguments, graph_of, main_name, code_of}
use Rattle.tam_graph.specs.Accepted.{IsAccepted}
use Rattle.tam_graph.specs.Written.{IsWritten}
use Rattle.tam_split.specs.Blocks.{block_graph}
use Rattle.tam_split.specs.Partitions.{single}
use Rattle.tam_split.specs.GraphPartitions.{are_valid}

-- a node with a name in the body
abbrev pub named : List ℕ → ℕ → Kind → Node
named n d k = record { name = Some n; depth = d; block = 0; kind = k }

-- and one without
abbrev pub nameless : Kind → Node
nameless k = record { name = None; depth = 0; block = 0; kind = k }

-- a graph of one code with one block
abbrev pub one_block : List Node → Graph
one_block nodes = graph_of (record { name = main_name; nodes = nodes; owners = None ∷ [] } ∷ [])

-- no number but 0 is below 1
only-zero : (n : ℕ) → nat_lt (suc n) 1 ≡ true → ⊥
only-zero n h = absurd (grind (arith, tests))

module _ (a b s : List ℕ) where
  -- the sum of two params
  abbrev pub sum_nodes : List Node
  sum_nodes = named a 0 (Param 0) ∷ named b 0 (Param 1) ∷ named s 0 (Operate Add 0 1) ∷ nameless (Give 0 2) ∷ []

  sum-written : (n : ℕ) → nat_lt n 1 ≡ true → IsWritten 1 (code_of (one_block sum_nodes) n)
  sum-written zero h = record { nodes_in_order = refl; blocks_in_order = refl; lines = refl; depths = refl; shallow = refl; small_blocks = refl; small = refl }
  sum-written (suc n) h = absurd (only-zero n h)

  -- is accepted
  pub sum-accepted : IsAccepted (one_block sum_nodes)
  sum-accepted = record { has_main = refl; few_codes = refl; written = sum-written; no_fault = refl }

module _ (n cells z v x y : List ℕ) where
  -- a cell that is read and never written, beside a sum
  abbrev pub waiting_nodes : List Node
  waiting_nodes =
      named n 0 (Const 1) ∷ named cells 1 (Alloc 0) ∷ named z 0 (Const 0) ∷ named v 0 (Fetch 1 2) ∷ named x 0 (Param 0) ∷ named y 0 (Operate Add 4 0)
      ∷ nameless (Give 0 3) ∷ nameless (Give 1 5) ∷ []

  waiting-written : (m : ℕ) → nat_lt m 1 ≡ true → IsWritten 1 (code_of (one_block waiting_nodes) m)
  waiting-written zero h = record {
    nodes_in_order = refl;
    blocks_in_order = refl;
    lines = refl;
    depths = refl;
    shallow = refl;
    small_blocks = refl;
    small = refl;
  }
  waiting-written (suc m) h = absurd (only-zero m h)

  -- is accepted
  pub waiting-accepted : IsAccepted (one_block waiting_nodes)
  waiting-accepted = record { has_main = refl; few_codes = refl; written = waiting-written; no_fault = refl }

  -- its classes, all merged that may be, are a valid partition
  pub waiting-valid : are_valid (one_block waiting_nodes) ((((0 ∷ 1 ∷ 3 ∷ []) ∷ (2 ∷ 4 ∷ []) ∷ (5 ∷ 8 ∷ []) ∷ (6 ∷ 7 ∷ 9 ∷ []) ∷ []) ∷ []) ∷ []) ≡ true
  waiting-valid = refl

  -- and so is one class per vertex
  pub waiting-valid_singly : are_valid (one_block waiting_nodes) ((single 10 ∷ []) ∷ []) ≡ true
  waiting-valid_singly = refl

  -- it takes one argument
  pub waiting-arguments : AreArguments (one_block waiting_nodes) (6 ∷ [])
  waiting-arguments = record { one_each = refl; words = six }
    where
      six : (k w : ℕ) → slice_get (6 ∷ []) k ≡ Some w → w < 2 ^ 32
      six zero w h = let e : 6 ≡ w = cc in omega (arith, e)
      six (suc k) w h = let no_word : None ≡ Some w = h in cc

module _ (n cells z x v : List ℕ) where
  -- a cell that two stores write, where the param is 0
  abbrev pub writing_nodes : List Node
  writing_nodes =
      named n 0 (Const 1) ∷ named cells 1 (Alloc 0) ∷ named z 0 (Const 0) ∷ named x 0 (Param 0) ∷ nameless (Store 1 2 0) ∷ nameless (Store 1 3 2)
      ∷ named v 0 (Fetch 1 2) ∷ nameless (Give 0 6) ∷ []

  writing-written : (m : ℕ) → nat_lt m 1 ≡ true → IsWritten 1 (code_of (one_block writing_nodes) m)
  writing-written zero h = record {
    nodes_in_order = refl;
    blocks_in_order = refl;
    lines = refl;
    depths = refl;
    shallow = refl;
    small_blocks = refl;
    small = refl;
  }
  writing-written (suc m) h = absurd (only-zero m h)

  -- is accepted
  pub writing-accepted : IsAccepted (one_block writing_nodes)
  writing-accepted = record { has_main = refl; few_codes = refl; written = writing-written; no_fault = refl }

  -- four classes of it are a valid partition
  pub writing-valid : are_valid (one_block writing_nodes) ((((0 ∷ 1 ∷ []) ∷ (2 ∷ 3 ∷ 5 ∷ 7 ∷ []) ∷ (4 ∷ 6 ∷ []) ∷ (8 ∷ 9 ∷ []) ∷ []) ∷ []) ∷ []) ≡ true
  writing-valid = refl

  -- and so is one class per vertex
  pub writing-valid_singly : are_valid (one_block writing_nodes) ((single 10 ∷ []) ∷ []) ≡ true
  writing-valid_singly = refl

  -- it takes one argument, 0 or 1
  pub writing-arguments : (w : ℕ) → w < 2 → AreArguments (one_block writing_nodes) (w ∷ [])
  writing-arguments w small = record { one_each = refl; words = only }
    where
      only : (k u : ℕ) → slice_get (w ∷ []) k ≡ Some u → u < 2 ^ 32
      only zero u h = let e : w ≡ u = cc in omega (arith, e)
      only (suc k) u h = let no_word : None ≡ Some u = h in cc

module _ (x f y z a b one c d : List ℕ) where
  -- a code whose call's first result is the second argument, and the code that it calls
  abbrev pub fed_back : Graph
  fed_back =
      graph_of (record {
        name = main_name;
        nodes = named x 0 (Param 0) ∷ named f 0 (Call 1) ∷ nameless (Arg 1 0 0) ∷ named y 0 (Ret 1 0) ∷ nameless (Arg 1 1 3) ∷ named z 0 (Ret 1 1)
            ∷ nameless (Give 0 5) ∷ [];
        owners = None ∷ [];
      } ∷ record {
        name = codes "g";
        nodes = named a 0 (Param 0) ∷ named b 0 (Param 1) ∷ named one 0 (Const 1) ∷ named c 0 (Operate Add 0 2) ∷ named d 0 (Operate Add 1 3)
            ∷ nameless (Give 0 3) ∷ nameless (Give 1 4) ∷ [];
        owners = None ∷ [];
      } ∷ [])

  fed_back-written : (m : ℕ) → nat_lt m 2 ≡ true → IsWritten 2 (code_of fed_back m)
  fed_back-written zero h = record {
    nodes_in_order = refl;
    blocks_in_order = refl;
    lines = refl;
    depths = refl;
    shallow = refl;
    small_blocks = refl;
    small = refl;
  }
  fed_back-written (suc zero) h = record {
    nodes_in_order = refl;
    blocks_in_order = refl;
    lines = refl;
    depths = refl;
    shallow = refl;
    small_blocks = refl;
    small = refl;
  }
  fed_back-written (suc (suc m)) h = absurd (grind (arith, tests))

  -- is accepted
  pub fed_back-accepted : IsAccepted fed_back
  fed_back-accepted = record { has_main = refl; few_codes = refl; written = fed_back-written; no_fault = refl }

  -- and the second has seven vertices
  pub fed_back-vertices : length (block_graph (code_of fed_back 1) 0).vertices ≡ 7
  fed_back-vertices = refl
