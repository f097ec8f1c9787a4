-- What the vertices of a block are: by the kind of their nodes.
use Rattle.std.proofs.Common.{◌≡◌, ℕ, zero, suc, ◌<◌, List, [], ◌∷◌, Bool, true, false, refl, sym, subst, ap, inl, inr, ◌⊎◌, ◌∙◌, true≢false, length, arith}
use Rattle.std.proofs.Common.{Some, None, slice_get, ◌==◌}
use Rattle.std.proofs.lemmas.Option.{slice_get_within}
use Rattle.tam_word.proofs.Tests.{self-eq}
use Rattle.tam_word.proofs.Members.{In, flat_map-in, in-flat_map, filter-in, get-in, in-get, below-in}
use Rattle.tam_graph.specs.declared.kind.Kind.{Kind}
use Rattle.tam_graph.specs.declared.kind.Kind.TheVariants.{Param, Call, Ret, Alloc, Fetch, Merge, Enter}
use Rattle.tam_split.specs.declared.vertex.Half.TheVariants.{Whole, Ask, Answer}
use Rattle.tam_split.specs.declared.vertex.Vertex.{Vertex}
use Rattle.tam_graph.specs.Graphs.{Code, or_kind, kind_at, block_at, nodes_in, node_numbers, operands_of, is_split, is_inlet, is_outlet}
use Rattle.tam_split.specs.Blocks.{block_graph, vertex_at, or_vertex, vertices_of, vertices_in, taken_by, is_ask}
use Rattle.tam_split.proofs.BlockPaths.{IsAt}

-- ---- kinds

-- what is cut is an inlet
pub split-inlet : (k : Kind) → is_split k ≡ true → is_inlet k ≡ true
split-inlet (Call f) h = refl
split-inlet (Alloc n) h = refl
split-inlet (Fetch a i) h = refl
split-inlet k h = absurd (true≢false (sym h))

-- and an outlet
pub split-outlet : (k : Kind) → is_split k ≡ true → is_outlet k ≡ true
split-outlet (Call f) h = refl
split-outlet (Alloc n) h = refl
split-outlet (Fetch a i) h = refl
split-outlet k h = absurd (true≢false (sym h))

-- an inlet that isn't cut is no outlet
pub inlet-no_outlet : (k : Kind) → is_split k ≡ false → is_inlet k ≡ true → is_outlet k ≡ false
inlet-no_outlet (Param k) s h = refl
inlet-no_outlet (Ret f k) s h = refl
inlet-no_outlet (Merge d k) s h = refl
inlet-no_outlet (Enter k) s h = refl
inlet-no_outlet k s h = absurd (true≢false (sym h ∙ s))

-- and takes nothing
pub inlet-no_operand : (c : Code) (k : Kind) → is_split k ≡ false → is_inlet k ≡ true → operands_of c k ≡ []
inlet-no_operand c (Param k) s h = refl
inlet-no_operand c (Ret f k) s h = refl
inlet-no_operand c (Merge d k) s h = refl
inlet-no_operand c (Enter k) s h = refl
inlet-no_operand c k s h = absurd (true≢false (sym h ∙ s))

-- ---- vertices

-- the ask of a node
abbrev pub ask : ℕ → Vertex
ask x = record { node = x; half = Ask; inlet = false; outlet = true }

-- its answer
abbrev pub answer : ℕ → Vertex
answer x = record { node = x; half = Answer; inlet = true; outlet = false }

-- the vertex of a node that isn't cut
abbrev pub whole : ℕ → Kind → Vertex
whole x k = record { node = x; half = Whole; inlet = is_inlet k; outlet = is_outlet k }

-- the vertex is one of node x
abbrev pub HasShape : ℕ → Kind → Vertex → Type 0
HasShape x k v = ((is_split k ≡ true) × ((v ≡ ask x) ⊎ (v ≡ answer x))) ⊎ ((is_split k ≡ false) × (v ≡ whole x k))

-- each vertex of a node is one of these
pub vertex-shape : (x : ℕ) (k : Kind) (v : Vertex) → In v (vertices_of x k) → HasShape x k v
vertex-shape x k v h = go (is_split k) refl
  where
    go : (b : Bool) → is_split k ≡ b → HasShape x k v
    go true e = inl (e, halves (rw (vertices_of, e) at h))
      where
        halves : (ask x ≡ v) ⊎ ((answer x ≡ v) ⊎ ⊥) → (v ≡ ask x) ⊎ (v ≡ answer x)
        halves (inl p) = inl (sym p)
        halves (inr (inl p)) = inr (sym p)
        halves (inr (inr p)) = absurd p
    go false e = inr (e, one (rw (vertices_of, e) at h))
      where
        one : (whole x k ≡ v) ⊎ ⊥ → v ≡ whole x k
        one (inl p) = sym p
        one (inr p) = absurd p

-- an outlet has a vertex that is one
pub outlet-vertex : (x : ℕ) (k : Kind) → is_outlet k ≡ true → (v : Vertex) × In v (vertices_of x k) × (v.outlet ≡ true) × (v.node ≡ x)
outlet-vertex x k h = go (is_split k) refl
  where
    go : (b : Bool) → is_split k ≡ b → (v : Vertex) × In v (vertices_of x k) × (v.outlet ≡ true) × (v.node ≡ x)
    go true e = (ask x, rw (vertices_of, e) (inl refl), refl, refl)
    go false e = (whole x k, rw (vertices_of, e) (inl refl), h, refl)

-- its vertices have the node's number
pub shape-node : (x : ℕ) (k : Kind) (v : Vertex) → HasShape x k v → v.node ≡ x
shape-node x k v (inl (e, inl p)) = ap (λ (w : Vertex). w.node) p
shape-node x k v (inl (e, inr p)) = ap (λ (w : Vertex). w.node) p
shape-node x k v (inr (e, p)) = ap (λ (w : Vertex). w.node) p

-- an inlet vertex is of an inlet
pub shape-inlet : (x : ℕ) (k : Kind) (v : Vertex) → HasShape x k v → v.inlet ≡ true → is_inlet k ≡ true
shape-inlet x k v (inl (e, p)) h = split-inlet k e
shape-inlet x k v (inr (e, p)) h = sym (ap (λ (w : Vertex). w.inlet) p) ∙ h

-- an outlet vertex is of an outlet
pub shape-outlet : (x : ℕ) (k : Kind) (v : Vertex) → HasShape x k v → v.outlet ≡ true → is_outlet k ≡ true
shape-outlet x k v (inl (e, p)) h = split-outlet k e
shape-outlet x k v (inr (e, p)) h = sym (ap (λ (w : Vertex). w.outlet) p) ∙ h

-- an outlet vertex is no inlet vertex
pub outlet-no_inlet : (x : ℕ) (k : Kind) (v : Vertex) → HasShape x k v → v.outlet ≡ true → v.inlet ≡ true → ⊥
outlet-no_inlet x k v (inl (e, inl p)) o i = true≢false (sym i ∙ ap (λ (w : Vertex). w.inlet) p)
outlet-no_inlet x k v (inl (e, inr p)) o i = true≢false (sym o ∙ ap (λ (w : Vertex). w.outlet) p)
outlet-no_inlet x k v (inr (e, p)) o i =
    let n = inlet-no_outlet k e (sym (ap (λ (w : Vertex). w.inlet) p) ∙ i) in true≢false (sym o ∙ (ap (λ (w : Vertex). w.outlet) p ∙ n))

-- an outlet vertex takes the operands of its node
pub outlet-takes : (c : Code) (x : ℕ) (v : Vertex) → HasShape x (kind_at c x) v → v.outlet ≡ true → taken_by c v ≡ operands_of c (kind_at c x)
outlet-takes c x v (inl (e, inl p)) o = ap (taken_by c) p
outlet-takes c x v (inl (e, inr p)) o = absurd (true≢false (sym o ∙ ap (λ (w : Vertex). w.outlet) p))
outlet-takes c x v (inr (e, p)) o = ap (taken_by c) p

-- what gives the value of an inlet takes nothing
pub inlet-takes : (c : Code) (x : ℕ) (v : Vertex) → HasShape x (kind_at c x) v → is_ask v.half ≡ false → is_inlet (kind_at c x) ≡ true → taken_by c v ≡ []
inlet-takes c x v (inl (e, inl p)) a i = absurd (true≢false (sym (ap (λ (w : Vertex). is_ask w.half) p) ∙ a))
inlet-takes c x v (inl (e, inr p)) a i = ap (taken_by c) p
inlet-takes c x v (inr (e, p)) a i = ap (taken_by c) p ∙ inlet-no_operand c (kind_at c x) e i

-- what gives the value of a node that isn't cut takes at most its operands
pub giver-takes : (c : Code) (x : ℕ) (v : Vertex) → HasShape x (kind_at c x) v → is_split (kind_at c x) ≡ false → taken_by c v ≡ operands_of c (kind_at c x)
giver-takes c x v (inl (e, p)) s = absurd (true≢false (sym e ∙ s))
giver-takes c x v (inr (e, p)) s = ap (taken_by c) p

-- ---- of a block

module _ (c : Code) (b : ℕ) where
  -- a vertex of the block is one of its node, which stands in the block
  pub at-shape : (i : ℕ) (v : Vertex) → IsAt c b i v → HasShape v.node (kind_at c v.node) v × In v.node (nodes_in c b)
  at-shape i v h = of (in-flat_map (λ x. vertices_of x (kind_at c x)) v (nodes_in c b) (get-in (vertices_in c b) i v h))
    where
      of : (x : ℕ) × In x (nodes_in c b) × In v (vertices_of x (kind_at c x)) → HasShape v.node (kind_at c v.node) v × In v.node (nodes_in c b)
      of (x, a, m) =
          let s = vertex-shape x (kind_at c x) v m in
          let e : x ≡ v.node = sym (shape-node x (kind_at c x) v s) in
          (subst (λ y. HasShape y (kind_at c y) v) e s, subst (λ y. In y (nodes_in c b)) e a)

  -- the vertex at a place
  pub at-vertex : (i : ℕ) (v : Vertex) → IsAt c b i v → vertex_at (block_graph c b) i ≡ v
  at-vertex i v h = ap or_vertex h

  -- a place has a vertex
  pub place-at : (i : ℕ) → i < length (vertices_in c b) → IsAt c b i (vertex_at (block_graph c b) i)
  place-at i l = go (slice_get (vertices_in c b) i) refl
    where
      go : (o : _) → slice_get (vertices_in c b) i ≡ o → slice_get (vertices_in c b) i ≡ Some (or_vertex (slice_get (vertices_in c b) i))
      go None e = absurd (not-none (vertices_in c b) i l e)
        where
          not-none : (vs : List Vertex) (j : ℕ) → j < length vs → slice_get vs j ≡ None → ⊥
          not-none [] j m f = omega arith
          not-none (w ∷ vs) zero m f = cc
          not-none (w ∷ vs) (suc j) m f = not-none vs j (omega arith) f
      go (Some v) e = e ∙ ap Some (sym (ap or_vertex e))

  -- a place of the block is below the number of its vertices
  pub at-within : (i : ℕ) (v : Vertex) → IsAt c b i v → i < length (vertices_in c b)
  at-within i v h = slice_get_within (vertices_in c b) i v h

-- a node that is an outlet has a place in its block whose vertex is one
pub outlet-place : (c : Code) (x : ℕ) → is_outlet (kind_at c x) ≡ true → (i : ℕ) × (v : Vertex) × IsAt c (block_at c x) i v × (v.outlet ≡ true) × (v.node ≡ x)
outlet-place c x h = at (outlet-vertex x (kind_at c x) h)
  where
    there : In x (node_numbers c)
    there = go (slice_get c.nodes x) refl
      where
        go : (o : _) → slice_get c.nodes x ≡ o → In x (node_numbers c)
        go None e = absurd (true≢false (sym h ∙ ap (λ o. is_outlet (or_kind o)) e))
        go (Some n) e = below-in x (length c.nodes) (slice_get_within c.nodes x n e)

    at : (v : Vertex) × In v (vertices_of x (kind_at c x)) × (v.outlet ≡ true) × (v.node ≡ x) → (i : ℕ) × (v : Vertex) × IsAt c (block_at c x) i v
        × (v.outlet ≡ true) × (v.node ≡ x)
    at (v, m, o, n) =
        let a = filter-in (λ y. block_at c y == block_at c x) x (node_numbers c) there (self-eq (block_at c x)) in
        let p = in-get v (vertices_in c (block_at c x)) (flat_map-in (λ y. vertices_of y (kind_at c y)) x v (nodes_in c (block_at c x)) a m) in
        (p.0, v, p.1, o, n)
