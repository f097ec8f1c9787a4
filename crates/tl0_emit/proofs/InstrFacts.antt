-- What the instructions of a node name is there.
use Rattle.std.proofs.Common.{◌≡◌, ℕ, ◌<◌, ◌≤◌, true, Option, None, Some, IfSome, option_to_list, get_or, List, length, refl, ap, subst, inl}
use Rattle.tam_word.proofs.Tests.{below-test}
use Rattle.tam_word.proofs.Each.{each-in}
use Rattle.tam_word.proofs.Members.{In, has-in}
use Rattle.tam_graph.specs.declared.kind.Kind.{Kind}
use Rattle.tam_graph.specs.Graphs.{Code, kind_at, node_in, is_enter, is_inlet, operands_of}
use Rattle.tam_graph.proofs.FewNodes.{few-nodes}
use Rattle.tam_flow.proofs.Nodes.{in-each, is-enter}
use Rattle.tam_flow.proofs.Operands.{operand-taken}
use Rattle.tam_order.proofs.Rows.{has-at}
use Rattle.tl0_keep.specs.Compiled.{inlet_nodes}
use Rattle.tl0_keep.proofs.code.Forks.{merge-of}
use Rattle.tl0_keep.proofs.code.InletCounts.{inlet-kind}
use Rattle.tl0_keep.proofs.code.InletNumbers.{inlet-low}
use Rattle.tl0_keep.proofs.code.ThreadKinds.{merges_of}
use Rattle.tl0_emit.specs.CodeParts.{CodeParts, its_code, IsCodeOf}

module _ (t : CodeParts) (code : IsCodeOf t) where
  -- the code has at most 1,024 nodes
  pub nodes-few : length (its_code t).nodes ≤ 1024
  nodes-few = few-nodes (length t.graph.codes) (its_code t) (code.accepted.written t.code (below-test t.code (length t.graph.codes) code.there))

  -- an operand of a node is a node
  pub operand-there : (x a : ℕ) (k : Kind) → x < length (its_code t).nodes → kind_at (its_code t) x ≡ k → In a (operands_of (its_code t) k)
      → a < length (its_code t).nodes
  operand-there x a k l e m = (operand-taken t.graph code.accepted t.code code.there x a k l e m).0.there

  -- what stands in the list of inlets is a node that has its value from outside
  pub inlets-there : (xs : List ℕ) (k : ℕ) → xs ≡ inlet_nodes t.graph (its_code t) → k < length xs
      → (get_or xs k 0 < length (its_code t).nodes) × (is_inlet (kind_at (its_code t) (get_or xs k 0)) ≡ true)
  inlets-there xs k e l =
      let m = subst (In (get_or xs k 0)) e (has-in xs (get_or xs k 0) (has-at xs k l)) in
      (inlet-low t.graph code.accepted t.code code.there (get_or xs k 0) m, inlet-kind t.graph code.accepted t.code code.there (get_or xs k 0) m)

-- an `in` that is found is an inlet
pub enter-there : (c : Code) (b k : ℕ) (o : Option ℕ) → option_to_list o ≡ node_in c b (is_enter k)
    → IfSome o (λ m. (m < length c.nodes) × (is_inlet (kind_at c m) ≡ true))
enter-there c b k None e = tt
enter-there c b k (Some m) e =
    let h = each-in _ _ m (in-each c b (is_enter k)) (subst (In m) e (inl refl)) in
    (h.0.0, ap is_inlet (is-enter k (kind_at c m) h.1))

-- a merge that is found is an inlet
pub merge-there : (c : Code) (k : ℕ) (owners : List ℕ) (o : Option ℕ) → option_to_list o ≡ merges_of c k owners
    → IfSome o (λ m. (m < length c.nodes) × (is_inlet (kind_at c m) ≡ true))
merge-there c k owners None e = tt
merge-there c k owners (Some m) e =
    let h = merge-of c k m owners (subst (In m) e (inl refl)) in
    (h.2, ap is_inlet h.3)
