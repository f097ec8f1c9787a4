-- From operands to what takes them: each inlet that reaches a vertex has a property, where each inlet that reaches an operand has it.
use Rattle.std.proofs.Common.{◌≡◌, ℕ, Bool, true, false, refl, sym, subst, ap, ⊎_elim, ◌∙◌, true≢false, Some, slice_get}
use Rattle.tam_word.proofs.Members.{In}
use Rattle.tam_split.specs.declared.vertex.Vertex.{Vertex}
use Rattle.tam_graph.specs.Edges.{reaches}
use Rattle.tam_graph.specs.Graphs.{Code, kind_at, operands_of, is_split, is_inlet}
use Rattle.tam_split.specs.Blocks.{block_graph, vertices_in, taken_by, is_ask}
use Rattle.tam_split.proofs.BlockPaths.{IsAt, reaches-operand}
use Rattle.tam_split.proofs.BlockVertices.{at-shape, shape-inlet, outlet-no_inlet, outlet-takes, inlet-takes, giver-takes, split-inlet}

-- the node of each inlet that reaches the vertex that gives x's value has the property
abbrev pub Depends : Code → (ℕ → Type 0) → ℕ → Type 0
Depends c D x = (b i j : ℕ) (v w : Vertex) → IsAt c b i v → v.node ≡ x → is_ask v.half ≡ false → IsAt c b j w → w.inlet ≡ true
    → reaches (block_graph c b).edges j i ≡ true → D w.node

module _ (c : Code) (D : ℕ → Type 0) where
  -- one vertex stands at a place
  one-at : (b i j : ℕ) (v w : Vertex) → IsAt c b i v → IsAt c b j w → j ≡ i → w ≡ v
  one-at b i j v w p a e = let q : ◌≡◌ {A = _} (Some w) (Some v) = sym a ∙ (ap (slice_get (vertices_in c b)) e ∙ p) in cc

  -- of an inlet: the inlet itself
  pub depends-inlet : (x : ℕ) → is_inlet (kind_at c x) ≡ true → D x → Depends c D x
  depends-inlet x k d b i j v w p n a q o r = ⊎_elim self (λ l. absurd (nothing l.1.node l.4)) (reaches-operand c b j i v p r)
    where
      self : j ≡ i → D w.node
      self e = subst D (sym (ap (λ (u : Vertex). u.node) (one-at b i j v w p q e) ∙ n)) d

      nothing : (u : ℕ) → In u (taken_by c v) → ⊥
      nothing u m =
          let t = inlet-takes c v.node v (at-shape c b i v p).0 a (subst (λ y. is_inlet (kind_at c y) ≡ true) (sym n) k) in
          let h = rw t at m in h

  -- of what is no inlet: those of its operands
  pub depends-inner : (x : ℕ) → is_inlet (kind_at c x) ≡ false → ((a : ℕ) → In a (operands_of c (kind_at c x)) → Depends c D a) → Depends c D x
  depends-inner x k each b i j v w p n a q o r = ⊎_elim self (λ l. each l.1.node (taken l.1.node l.4) b l.0 j l.1 w l.2 refl l.3 q o l.5)
      (reaches-operand c b j i v p r)
    where
      not-split : (t : Bool) → is_split (kind_at c v.node) ≡ t → is_split (kind_at c v.node) ≡ false
      not-split false e = e
      not-split true e = absurd (true≢false (sym (split-inlet (kind_at c v.node) e) ∙ subst (λ y. is_inlet (kind_at c y) ≡ false) (sym n) k))

      self : j ≡ i → D w.node
      self e =
          let same = one-at b i j v w p q e in
          let inlet : v.inlet ≡ true = sym (ap (λ (u : Vertex). u.inlet) same) ∙ o in
          let kind = shape-inlet v.node (kind_at c v.node) v (at-shape c b i v p).0 inlet in
          absurd (true≢false (sym kind ∙ subst (λ y. is_inlet (kind_at c y) ≡ false) (sym n) k))

      taken : (u : ℕ) → In u (taken_by c v) → In u (operands_of c (kind_at c x))
      taken u m =
          let t : taken_by c v ≡ operands_of c (kind_at c v.node) = giver-takes c v.node v (at-shape c b i v p).0
          (not-split (is_split (kind_at c v.node)) refl) in
          subst (λ y. In u (operands_of c (kind_at c y))) n (subst (In u) t m)

  -- and of an outlet: those of its operands
  pub depends-outlet : (b i j : ℕ) (v w : Vertex) → IsAt c b i v → v.outlet ≡ true → ((a : ℕ) → In a (operands_of c (kind_at c v.node)) → Depends c D a)
      → IsAt c b j w → w.inlet ≡ true → reaches (block_graph c b).edges j i ≡ true → D w.node
  depends-outlet b i j v w p out each q o r = ⊎_elim self (λ l. each l.1.node (taken l.1.node l.4) b l.0 j l.1 w l.2 refl l.3 q o l.5)
      (reaches-operand c b j i v p r)
    where
      self : j ≡ i → D w.node
      self e =
          let inlet : v.inlet ≡ true = sym (ap (λ (u : Vertex). u.inlet) (one-at b i j v w p q e)) ∙ o in
          absurd (outlet-no_inlet v.node (kind_at c v.node) v (at-shape c b i v p).0 out inlet)

      taken : (u : ℕ) → In u (taken_by c v) → In u (operands_of c (kind_at c v.node))
      taken u m = subst (In u) (outlet-takes c v.node v (at-shape c b i v p).0 out) m
