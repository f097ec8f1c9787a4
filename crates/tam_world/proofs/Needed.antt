-- The needs of a code's nodes, node by node.
use Rattle.std.proofs.Common.{◌≡◌, ℕ, suc, ◌<◌, ◌≤◌, Bool, true, false, List, [], ◌∷◌, ◌++◌, Option, Some, None, length, refl, sym, ap, subst, arith}
use Rattle.std.proofs.Common.{nat_lt, tests, ⊎_elim, length-append}
use Rattle.std.specs.Prelude.{slice_get}
use Rattle.tam_word.proofs.Tests.{test-below}
use Rattle.tam_word.proofs.Each.{get-left, get-last, get-past, last-or_before}
use Rattle.tam_graph.specs.declared.kind.Kind.{Kind}
use Rattle.tam_graph.specs.declared.node.Node.{Node}
use Rattle.tam_graph.specs.Graphs.{Code, kind_at, block_at, or_kind, or_block, fires}
use Rattle.tam_world.specs.declared.need.Need.{Need}
use Rattle.tam_world.specs.declared.need.Need.TheVariants.{Never}
use Rattle.tam_world.specs.Needs.{IsNeedOf, AreNeedsOf, or_never}

-- a node that never fires
needs-never : (c : Code) (block : ℕ) (kind : Kind) → fires kind ≡ false → IsNeedOf c block kind Never
needs-never c block kind inlet = record { met = λ entered fed. rw inlet refl }

-- the needs are those of the nodes below n
pub record AreNeedsBelow (c : Code) (needs : List Need) (n : ℕ) : Type 0 where
  pub count : length needs ≡ n
  pub each : (x : ℕ) → x < n → IsNeedOf c (block_at c x) (kind_at c x) (or_never (slice_get needs x))

-- no node
pub needs-none : (c : Code) → AreNeedsBelow c [] 0
needs-none c = record { count = refl; each = λ x h. absurd (omega arith) }

-- a node more
pub needs-next : (c : Code) (needs : List Need) (n : ℕ) (node : Node) (need : Need) → AreNeedsBelow c needs n → slice_get c.nodes n ≡ Some node
    → IsNeedOf c node.block node.kind need → AreNeedsBelow c (needs ++ need ∷ []) (suc n)
needs-next c needs n node need below_n read is = record {
  count = omega (arith, length-append needs (need ∷ []), below_n.count);
  each = λ x h. ⊎_elim (λ before. subst (λ (o : Option Need). IsNeedOf c (block_at c x) (kind_at c x) (or_never o))
      (sym (get-left needs (need ∷ []) x (omega (arith, below_n.count, before)))) (below_n.each x before)) (last x) (last-or_before x n h);
}
  where
    last : (x : ℕ) → x ≡ n → IsNeedOf c (block_at c x) (kind_at c x) (or_never (slice_get (needs ++ need ∷ []) x))
    last x e =
        let P : ℕ → Type 0 = λ m. IsNeedOf c (block_at c n) (kind_at c n) (or_never (slice_get (needs ++ need ∷ []) m)) in
        subst (λ m. IsNeedOf c (block_at c m) (kind_at c m) (or_never (slice_get (needs ++ need ∷ []) m))) (sym e)
        (subst P below_n.count (subst (λ (o : Option Need). IsNeedOf c (block_at c n) (kind_at c n) (or_never o)) (sym (get-last needs need))
        (subst (λ (o : Option Node). IsNeedOf c (or_block o) (or_kind o) need) (sym read) is)))

-- all nodes
pub needs-all : (c : Code) (needs : List Need) → AreNeedsBelow c needs (length c.nodes) → AreNeedsOf c needs
needs-all c needs below_all x = go (nat_lt x (length c.nodes)) refl
  where
    go : (b : Bool) → nat_lt x (length c.nodes) ≡ b → IsNeedOf c (block_at c x) (kind_at c x) (or_never (slice_get needs x))
    go true e = below_all.each x (test-below x (length c.nodes) e)
    go false e =
        let past : length c.nodes ≤ x = grind (arith, tests) in
        let unneeded : slice_get needs x ≡ None = get-past needs x (omega (arith, past, below_all.count)) in
        let no_such : kind_at c x ≡ or_kind None = ap or_kind (get-past c.nodes x past) in
        rw unneeded (needs-never c (block_at c x) (kind_at c x) (ap fires no_such))
