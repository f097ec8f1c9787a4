-- What a switch names are nodes of its code.
use Rattle.std.proofs.Common.{◌≡◌, ℕ, ◌<◌, nat_lt, length, get_or, sym, ap, ◌∙◌, inl, inr, arith}
use Rattle.std.proofs.lemmas.Option.{get_or_from_slice_get, slice_get_cases}
use Rattle.tam_word.proofs.Tests.{both-true}
use Rattle.tam_graph.specs.declared.node.Node.{Node}
use Rattle.tam_graph.specs.declared.kind.Kind.{Kind}
use Rattle.tam_graph.specs.declared.kind.Kind.TheVariants.{Switch as Choose}
use Rattle.tam_graph.specs.Graphs.{Code, or_kind, kind_at}
use Rattle.tam_graph.specs.Written.{is_operand, is_cond_node}
use Rattle.tam_flow.proofs.Nodes.{operand, cond-operand, line}
use Rattle.tl0_keep.proofs.code.BranchOwning.{switch-there}
use Rattle.tl0_emit.specs.CodeParts.{CodeParts, its_code, IsCodeOf}

-- the cond of a switch and what it gives are nodes
abbrev pub AreNamed : Code → Kind → Type 0
AreNamed c (Choose d k a) = (d < length c.nodes) × (a < length c.nodes)
AreNamed c k = Unit {0}

-- and so it is in a code of an accepted graph
pub switch-names : (t : CodeParts) → IsCodeOf t → (x : ℕ) (k : Kind) → kind_at (its_code t) x ≡ k → AreNamed (its_code t) k
switch-names t code x (Choose d k a) e =
    let l = line t.graph code.accepted t.code code.there x (Choose d k a) (switch-there t.graph code.accepted t.code code.there x d k a e) e in
    let cond = both-true (is_cond_node (its_code t) d) _ l in
    let given = both-true (is_operand (its_code t) a) (nat_lt k 64) cond.1 in
    ((cond-operand (its_code t) d cond.0).0, (operand (its_code t) a given.0).there)
switch-names t code x k e = tt

-- a node that was read does what the code's node does
kind-read : (c : Code) (x : ℕ) (n : Node) → x < length c.nodes → n ≡ get_or c.nodes x n → kind_at c x ≡ n.kind
kind-read c x n l e = elim (slice_get_cases c.nodes x).1 [
  | inl a ↦ ap or_kind a.2 ∙ ap (λ (m : Node). m.kind) (sym (e ∙ get_or_from_slice_get c.nodes x a.0 n a.2))
  | inr b ↦ absurd (let h = b.0 in omega (arith, h, l))
]

-- so it names nodes, where it is a switch
pub switch-read : (t : CodeParts) → IsCodeOf t → (x : ℕ) (n : Node) → x < length (its_code t).nodes → n ≡ get_or (its_code t).nodes x n
    → AreNamed (its_code t) n.kind
switch-read t code x n l e = switch-names t code x n.kind (kind-read (its_code t) x n l e)
