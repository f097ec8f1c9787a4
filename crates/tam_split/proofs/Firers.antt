-- The vertices of a node by their part in a run: one fires, one gives the node's value, and an inlet takes nothing.
use Rattle.std.proofs.Common.{◌≡◌, ℕ, zero, suc, ◌+◌, ◌<◌, Bool, true, false, List, [], ◌∷◌, refl, sym, subst, ap, inl, inr, ◌⊎◌, ◌∙◌, true≢false}
use Rattle.std.proofs.Common.{◌==◌, length, slice_get, Some, None, flat_map}
use Rattle.std.proofs.lemmas.Option.{none-some, same_Some, slice_get_within}
use Rattle.tam_word.proofs.Tests.{eq-number, number-eq}
use Rattle.tam_word.proofs.Members.{In, in-flat_map, flat_map-in, in-filter, filter-in, get-in}
use Rattle.tam_word.proofs.Members.{get-append, below-in, Distinct, distinct-below, distinct-filter}
use Rattle.tam_graph.specs.declared.kind.Kind.{Kind}
use Rattle.tam_graph.specs.declared.kind.Kind.TheVariants.{Param, Const, Op as Operate, Seq, Call, Arg, Ret, Give, Alloc}
use Rattle.tam_graph.specs.declared.kind.Kind.TheVariants.{Fetch, Store, Cond, Switch, Merge, Enter, Leave}
use Rattle.tam_graph.specs.Graphs.{Code, or_kind, kind_at, block_at, nodes_in, node_numbers, operands_of, is_split, is_inlet, is_outlet, has_value, fires}
use Rattle.tam_split.specs.declared.vertex.Half.TheVariants.{Whole, Ask, Answer}
use Rattle.tam_split.specs.declared.vertex.Vertex.{Vertex}
use Rattle.tam_split.specs.Blocks.{vertices_of, vertices_in, is_ask, is_answer, edges_among}
use Rattle.tam_split.proofs.BlockEdges.{in-fed, fed-in, feeds-parts, parts-feed}

-- ---- kinds

-- the node's value comes from the node itself: a const, an operator, a seq
abbrev pub is_inner : Kind → Bool
is_inner (Const w) = true
is_inner (Operate o a b) = true
is_inner (Seq a b) = true
is_inner _ = false

-- what is inner is no inlet
pub inner-no_inlet : (k : Kind) → is_inner k ≡ true → is_inlet k ≡ false
inner-no_inlet (Const w) h = refl
inner-no_inlet (Operate o a b) h = refl
inner-no_inlet (Seq a b) h = refl
inner-no_inlet k h = absurd (true≢false (sym h))

-- what has a value and is no inlet is inner
pub value-inner : (k : Kind) → has_value k ≡ true → is_inlet k ≡ false → is_inner k ≡ true
value-inner (Const w) h n = refl
value-inner (Operate o a b) h n = refl
value-inner (Seq a b) h n = refl
value-inner (Param k) h n = absurd (true≢false n)
value-inner (Ret f k) h n = absurd (true≢false n)
value-inner (Merge d k) h n = absurd (true≢false n)
value-inner (Enter k) h n = absurd (true≢false n)
value-inner (Call f) h n = absurd (true≢false n)
value-inner (Alloc f) h n = absurd (true≢false n)
value-inner (Fetch a i) h n = absurd (true≢false n)
value-inner k h n = absurd (true≢false (sym h))

-- what is inner has a value
pub inner-value : (k : Kind) → is_inner k ≡ true → has_value k ≡ true
inner-value (Const w) h = refl
inner-value (Operate o a b) h = refl
inner-value (Seq a b) h = refl
inner-value k h = absurd (true≢false (sym h))

-- and so has an inlet
pub inlet-value : (k : Kind) → is_inlet k ≡ true → has_value k ≡ true
inlet-value (Const w) h = refl
inlet-value (Operate o a b) h = refl
inlet-value (Seq a b) h = refl
inlet-value k h = h

-- what is cut is an inlet
pub split-inlet : (k : Kind) → is_split k ≡ true → is_inlet k ≡ true
split-inlet (Call f) h = refl
split-inlet (Alloc n) h = refl
split-inlet (Fetch a i) h = refl
split-inlet k h = absurd (true≢false (sym h))

-- and fires
pub split-fires : (k : Kind) → is_split k ≡ true → fires k ≡ true
split-fires (Call f) h = refl
split-fires (Alloc n) h = refl
split-fires (Fetch a i) h = refl
split-fires k h = absurd (true≢false (sym h))

-- what isn't cut fires where it is no inlet
pub whole-fires : (k : Kind) → is_split k ≡ false → is_inlet k ≡ false → fires k ≡ true
whole-fires (Const w) s h = refl
whole-fires (Operate o a b) s h = refl
whole-fires (Seq a b) s h = refl
whole-fires (Arg f k a) s h = refl
whole-fires (Give k a) s h = refl
whole-fires (Store a i v) s h = refl
whole-fires (Cond p y n) s h = refl
whole-fires (Switch c k a) s h = refl
whole-fires (Leave k a) s h = refl
whole-fires (Call f) s h = absurd (true≢false s)
whole-fires (Alloc f) s h = absurd (true≢false s)
whole-fires (Fetch a i) s h = absurd (true≢false s)
whole-fires k s h = absurd (true≢false h)

-- and only there
pub fires-whole : (k : Kind) → is_split k ≡ false → fires k ≡ true → is_inlet k ≡ false
fires-whole (Param k) s h = absurd (true≢false (sym h))
fires-whole (Ret f k) s h = absurd (true≢false (sym h))
fires-whole (Merge d k) s h = absurd (true≢false (sym h))
fires-whole (Enter k) s h = absurd (true≢false (sym h))
fires-whole (Call f) s h = absurd (true≢false s)
fires-whole (Alloc f) s h = absurd (true≢false s)
fires-whole (Fetch a i) s h = absurd (true≢false s)
fires-whole k s h = refl

-- an inlet that isn't cut takes nothing
pub inlet-no_operand : (c : Code) (k : Kind) → is_split k ≡ false → is_inlet k ≡ true → operands_of c k ≡ []
inlet-no_operand c (Param k) s h = refl
inlet-no_operand c (Ret f k) s h = refl
inlet-no_operand c (Merge d k) s h = refl
inlet-no_operand c (Enter k) s h = refl
inlet-no_operand c k s h = absurd (true≢false (sym h ∙ s))

-- ---- shapes

-- the ask of a node
abbrev pub ask : ℕ → Vertex
ask x = record { node = x; half = Ask; inlet = false; outlet = true }

-- its answer
abbrev pub answer : ℕ → Vertex
answer x = record { node = x; half = Answer; inlet = true; outlet = false }

-- the vertex of a node that isn't cut
abbrev pub whole : ℕ → Kind → Vertex
whole x k = record { node = x; half = Whole; inlet = is_inlet k; outlet = is_outlet k }

-- the vertex is one of node x
abbrev pub Shape : ℕ → Kind → Vertex → Type 0
Shape x k v = ((is_split k ≡ true) × ((ask x ≡ v) ⊎ (answer x ≡ v))) ⊎ ((is_split k ≡ false) × (whole x k ≡ v))

-- each vertex of a node is one of these
pub in-shape : (x : ℕ) (k : Kind) (v : Vertex) → In v (vertices_of x k) → Shape x k v
in-shape x k v h = go (is_split k) refl
  where
    cut : (ask x ≡ v) ⊎ ((answer x ≡ v) ⊎ ⊥) → (ask x ≡ v) ⊎ (answer x ≡ v)
    cut (inl p) = inl p
    cut (inr (inl p)) = inr p
    cut (inr (inr p)) = absurd p

    one : (whole x k ≡ v) ⊎ ⊥ → whole x k ≡ v
    one (inl p) = p
    one (inr p) = absurd p

    go : (b : Bool) → is_split k ≡ b → Shape x k v
    go true e = inl (e, cut (rw (vertices_of, e) at h))
    go false e = inr (e, one (rw (vertices_of, e) at h))

-- its number is the node's
shape-node : (x : ℕ) (k : Kind) (v : Vertex) → Shape x k v → v.node ≡ x
shape-node x k v (inl (e, inl p)) = sym (ap (λ (w : Vertex). w.node) p)
shape-node x k v (inl (e, inr p)) = sym (ap (λ (w : Vertex). w.node) p)
shape-node x k v (inr (e, p)) = sym (ap (λ (w : Vertex). w.node) p)

-- a vertex of a block is one of its node, which is the block's
pub at-shape : (c : Code) (b k : ℕ) (v : Vertex) → slice_get (vertices_in c b) k ≡ Some v → Shape v.node (kind_at c v.node) v × In v.node (nodes_in c b)
at-shape c b k v h = of (in-flat_map (λ x. vertices_of x (kind_at c x)) v (nodes_in c b) (get-in (vertices_in c b) k v h))
  where
    of : (x : ℕ) × In x (nodes_in c b) × In v (vertices_of x (kind_at c x)) → Shape v.node (kind_at c v.node) v × In v.node (nodes_in c b)
    of (x, a, m) =
        let s = in-shape x (kind_at c x) v m in
        let e : x ≡ v.node = sym (shape-node x (kind_at c x) v s) in
        (subst (λ y. Shape y (kind_at c y) v) e s, subst (λ y. In y (nodes_in c b)) e a)

-- ---- what fires

-- place k of block b has the vertex of node x that fires
pub record Firer (c : Code) (b k x : ℕ) : Type 0 where
  pub vertex : Vertex
  pub stands : slice_get (vertices_in c b) k ≡ Some vertex
  pub of_node : vertex.node ≡ x
  pub no_inlet : vertex.inlet ≡ false

-- place k of block b has the vertex that gives the value of node x
pub record Giver (c : Code) (b k x : ℕ) : Type 0 where
  pub vertex : Vertex
  pub stands : slice_get (vertices_in c b) k ≡ Some vertex
  pub of_node : vertex.node ≡ x
  pub no_ask : is_ask vertex.half ≡ false

-- the node stands in the block
pub node-block : (c : Code) (b x : ℕ) → In x (nodes_in c b) → block_at c x ≡ b
node-block c b x h = number-eq (block_at c x) b (in-filter (λ y. block_at c y == b) x (node_numbers c) h).1

-- so does one that fires
pub firer-block : (c : Code) (b k x : ℕ) → Firer c b k x → block_at c x ≡ b
firer-block c b k x f = subst (λ y. block_at c y ≡ b) f.of_node (node-block c b f.vertex.node (at-shape c b k f.vertex f.stands).1)

-- the place is one of the block's
pub firer-within : (c : Code) (b k x : ℕ) → Firer c b k x → k < length (vertices_in c b)
firer-within c b k x f = slice_get_within (vertices_in c b) k f.vertex f.stands

-- what fires is of a kind that fires
pub firer-fires : (c : Code) (b k x : ℕ) → Firer c b k x → fires (kind_at c x) ≡ true
firer-fires c b k x f = subst (λ y. fires (kind_at c y) ≡ true) f.of_node (go (at-shape c b k f.vertex f.stands).0)
  where
    go : Shape f.vertex.node (kind_at c f.vertex.node) f.vertex → fires (kind_at c f.vertex.node) ≡ true
    go (inl (e, s)) = split-fires (kind_at c f.vertex.node) e
    go (inr (e, p)) = whole-fires (kind_at c f.vertex.node) e (ap (λ (w : Vertex). w.inlet) p ∙ f.no_inlet)

-- a node whose kind isn't that of one that isn't there is there
pub kind-there : (c : Code) (x : ℕ) (test : Kind → Bool) → test (Enter 0) ≡ false → test (kind_at c x) ≡ true → In x (node_numbers c)
kind-there c x test e h = go (slice_get c.nodes x) refl
  where
    go : (o : _) → slice_get c.nodes x ≡ o → In x (node_numbers c)
    go None p = absurd (true≢false (sym h ∙ (ap (λ o. test (or_kind o)) p ∙ e)))
    go (Some n) p = below-in x (length c.nodes) (slice_get_within c.nodes x n p)

-- a node is one of its block
pub node-in : (c : Code) (x : ℕ) → In x (node_numbers c) → In x (nodes_in c (block_at c x))
node-in c x h = filter-in (λ y. block_at c y == block_at c x) x (node_numbers c) h (eq-number (block_at c x) (block_at c x) refl)

-- an element has a place
pub in-get : {X : Type 0} (xs : List X) (x : X) → In x xs → (k : ℕ) × (slice_get xs k ≡ Some x)
in-get [] x h = absurd h
in-get (y ∷ ys) x (inl e) = (0, ap Some e)
in-get (y ∷ ys) x (inr h) = let r = in-get ys x h in (suc r.0, r.1)

-- a vertex of a node of a block has a place
vertex-at : (c : Code) (b x : ℕ) (v : Vertex) → In x (nodes_in c b) → In v (vertices_of x (kind_at c x)) → (k : ℕ) × (slice_get (vertices_in c b) k ≡ Some v)
vertex-at c b x v a m = in-get (vertices_in c b) v (flat_map-in (λ y. vertices_of y (kind_at c y)) x v (nodes_in c b) a m)

-- a node that fires has a place that does
pub firer-at : (c : Code) (x : ℕ) → fires (kind_at c x) ≡ true → (k : ℕ) × Firer c (block_at c x) k x
firer-at c x h = go (is_split (kind_at c x)) refl
  where
    a : In x (nodes_in c (block_at c x))
    a = node-in c x (kind-there c x fires refl h)

    go : (b : Bool) → is_split (kind_at c x) ≡ b → (k : ℕ) × Firer c (block_at c x) k x
    go true e =
        let r = vertex-at c (block_at c x) x (ask x) a (rw (vertices_of, e) (inl refl)) in
        (r.0, record { vertex = ask x; stands = r.1; of_node = refl; no_inlet = refl })
    go false e =
        let r = vertex-at c (block_at c x) x (whole x (kind_at c x)) a (rw (vertices_of, e) (inl refl)) in
        (r.0, record { vertex = whole x (kind_at c x); stands = r.1; of_node = refl; no_inlet = fires-whole (kind_at c x) e h })

-- and each node one that gives its value
pub giver-at : (c : Code) (x : ℕ) → In x (node_numbers c) → (k : ℕ) × Giver c (block_at c x) k x
giver-at c x h = go (is_split (kind_at c x)) refl
  where
    go : (b : Bool) → is_split (kind_at c x) ≡ b → (k : ℕ) × Giver c (block_at c x) k x
    go true e =
        let r = vertex-at c (block_at c x) x (answer x) (node-in c x h) (rw (vertices_of, e) (inr (inl refl))) in
        (r.0, record { vertex = answer x; stands = r.1; of_node = refl; no_ask = refl })
    go false e =
        let r = vertex-at c (block_at c x) x (whole x (kind_at c x)) (node-in c x h) (rw (vertices_of, e) (inl refl)) in
        (r.0, record { vertex = whole x (kind_at c x); stands = r.1; of_node = refl; no_ask = refl })

-- a giver's vertex is an inlet where its node is
pub giver-inlet : (c : Code) (b k x : ℕ) → (f : Giver c b k x) → f.vertex.inlet ≡ is_inlet (kind_at c x)
giver-inlet c b k x f = subst (λ y. f.vertex.inlet ≡ is_inlet (kind_at c y)) f.of_node (go (at-shape c b k f.vertex f.stands).0)
  where
    go : Shape f.vertex.node (kind_at c f.vertex.node) f.vertex → f.vertex.inlet ≡ is_inlet (kind_at c f.vertex.node)
    go (inl (e, inl p)) = absurd (true≢false (ap (λ (w : Vertex). is_ask w.half) p ∙ f.no_ask))
    go (inl (e, inr p)) = sym (ap (λ (w : Vertex). w.inlet) p) ∙ sym (split-inlet (kind_at c f.vertex.node) e)
    go (inr (e, p)) = sym (ap (λ (w : Vertex). w.inlet) p)

-- an inlet vertex is of an inlet
pub inlet-kind : (c : Code) (b k : ℕ) (v : Vertex) → slice_get (vertices_in c b) k ≡ Some v → v.inlet ≡ true → is_inlet (kind_at c v.node) ≡ true
inlet-kind c b k v h i = go (at-shape c b k v h).0
  where
    go : Shape v.node (kind_at c v.node) v → is_inlet (kind_at c v.node) ≡ true
    go (inl (e, p)) = split-inlet (kind_at c v.node) e
    go (inr (e, p)) = ap (λ (w : Vertex). w.inlet) p ∙ i

-- ---- one vertex of a node fires

-- of a node's vertices one fires
one-firer : (x : ℕ) (k : Kind) (i j : ℕ) (u v : Vertex) → slice_get (vertices_of x k) i ≡ Some u → slice_get (vertices_of x k) j ≡ Some v
    → u.inlet ≡ false → v.inlet ≡ false → i ≡ j
one-firer x k i j u v p q a d = go (is_split k) refl
  where
    cut : (n : ℕ) (w : Vertex) → slice_get (ask x ∷ answer x ∷ []) n ≡ Some w → w.inlet ≡ false → n ≡ 0
    cut zero w e f = refl
    cut (suc zero) w e f = let s = same_Some (answer x) w e in absurd (true≢false (ap (λ (y : Vertex). y.inlet) s ∙ f))
    cut (suc (suc n)) w e f = absurd (none-some w e)

    uncut : (n : ℕ) (w : Vertex) → slice_get (whole x k ∷ []) n ≡ Some w → n ≡ 0
    uncut zero w e = refl
    uncut (suc n) w e = absurd (none-some w e)

    go : (t : Bool) → is_split k ≡ t → i ≡ j
    go true e = cut i u (rw (vertices_of, e) at p) a ∙ sym (cut j v (rw (vertices_of, e) at q) d)
    go false e = uncut i u (rw (vertices_of, e) at p) ∙ sym (uncut j v (rw (vertices_of, e) at q))

-- the vertices of a list of nodes
abbrev vertices_among : Code → List ℕ → List Vertex
vertices_among c xs = flat_map (λ x. vertices_of x (kind_at c x)) xs

-- a vertex at a place is of one of the nodes
among-node : (c : Code) (xs : List ℕ) (i : ℕ) (u : Vertex) → slice_get (vertices_among c xs) i ≡ Some u → In u.node xs
among-node c xs i u h =
    let r = in-flat_map (λ x. vertices_of x (kind_at c x)) u xs (get-in (vertices_among c xs) i u h) in
    subst (λ x. In x xs) (sym (shape-node r.0 (kind_at c r.0) u (in-shape r.0 (kind_at c r.0) u r.2))) r.1

-- where each node stands once, two places that fire for one node are one
same-place : (c : Code) (xs : List ℕ) → Distinct xs → (i j : ℕ) (u v : Vertex) → slice_get (vertices_among c xs) i ≡ Some u
    → slice_get (vertices_among c xs) j ≡ Some v → u.node ≡ v.node → u.inlet ≡ false → v.inlet ≡ false → i ≡ j
same-place c [] d i j u v p q e a f = absurd (none-some u p)
same-place c (x ∷ xs) d i j u v p q e a f =
    go (get-append (vertices_of x (kind_at c x)) (vertices_among c xs) i u p)
    (get-append (vertices_of x (kind_at c x)) (vertices_among c xs) j v q) (λ m n s t. same-place c xs d.1 m n u v s t e a f)
  where
    here : (k : ℕ) (w : Vertex) → slice_get (vertices_of x (kind_at c x)) k ≡ Some w → w.node ≡ x
    here k w h = shape-node x (kind_at c x) w (in-shape x (kind_at c x) w (get-in (vertices_of x (kind_at c x)) k w h))

    go : (slice_get (vertices_of x (kind_at c x)) i ≡ Some u)
        ⊎ ((m : ℕ) × (i ≡ length (vertices_of x (kind_at c x)) + m) × (slice_get (vertices_among c xs) m ≡ Some u))
        → (slice_get (vertices_of x (kind_at c x)) j ≡ Some v)
        ⊎ ((m : ℕ) × (j ≡ length (vertices_of x (kind_at c x)) + m) × (slice_get (vertices_among c xs) m ≡ Some v))
        → ((m n : ℕ) → slice_get (vertices_among c xs) m ≡ Some u → slice_get (vertices_among c xs) n ≡ Some v → m ≡ n) → i ≡ j
    go (inl s) (inl t) k = one-firer x (kind_at c x) i j u v s t a f
    go (inl s) (inr t) k = absurd (d.0 (subst (λ z. In z xs) (sym e ∙ here i u s) (among-node c xs t.0 v t.2)))
    go (inr s) (inl t) k = absurd (d.0 (subst (λ z. In z xs) (e ∙ here j v t) (among-node c xs s.0 u s.2)))
    go (inr s) (inr t) k = s.1 ∙ (ap (λ m. length (vertices_of x (kind_at c x)) + m) (k s.0 t.0 s.2 t.2) ∙ sym t.1)

-- so one place of a block fires for a node
pub firer-one : (c : Code) (b k l x : ℕ) → Firer c b k x → Firer c b l x → k ≡ l
firer-one c b k l x f e =
    same-place c (nodes_in c b) (distinct-filter (λ y. block_at c y == b) (node_numbers c) (distinct-below (length c.nodes)))
    k l f.vertex e.vertex f.stands e.stands (f.of_node ∙ sym e.of_node) f.no_inlet e.no_inlet

-- a place fires for one node
pub firer-node : (c : Code) (b k x y : ℕ) → Firer c b k x → Firer c b k y → x ≡ y
firer-node c b k x y f e = sym f.of_node ∙ (ap (λ (v : Vertex). v.node) (same_Some f.vertex e.vertex (sym f.stands ∙ e.stands)) ∙ e.of_node)

-- and is no inlet
pub firer-no_inlet : (c : Code) (b k x : ℕ) (v : Vertex) → Firer c b k x → slice_get (vertices_in c b) k ≡ Some v → v.inlet ≡ true → ⊥
firer-no_inlet c b k x v f h i = true≢false (sym i ∙ (ap (λ (w : Vertex). w.inlet) (same_Some v f.vertex (sym h ∙ f.stands)) ∙ f.no_inlet))

-- ---- edges

-- an edge to a place that fires comes from the giver of an operand
pub edge-operand : (c : Code) (b d k x : ℕ) → Firer c b k x → In (d, k) (edges_among c (vertices_in c b))
    → (a : ℕ) × In a (operands_of c (kind_at c x)) × Giver c b d a
edge-operand c b d k x f h =
    let e = in-fed c (vertices_in c b) (d, k) h in
    let p = feeds-parts c e.giver e.taker e.fed in
    let n : e.taker.node ≡ x = ap (λ (v : Vertex). v.node) (same_Some e.taker f.vertex (sym e.at_taker ∙ f.stands)) ∙ f.of_node in (
      e.giver.node,
      subst (λ y. In e.giver.node (operands_of c (kind_at c y))) n p.2,
      record {
        vertex = e.giver;
        stands = e.at_giver;
        of_node = refl;
        no_ask = p.0;
      },
    )

-- and from each giver of an operand there is one
pub operand-edge : (c : Code) (b d k x a : ℕ) → Firer c b k x → Giver c b d a → In a (operands_of c (kind_at c x)) → In (d, k)
    (edges_among c (vertices_in c b))
operand-edge c b d k x a f e h = fed-in c (vertices_in c b) d k (record {
  giver = e.vertex;
  taker = f.vertex;
  at_giver = e.stands;
  at_taker = f.stands;
  fed = parts-feed c e.vertex f.vertex (e.no_ask, no_answer (at-shape c b k f.vertex f.stands).0, operand);
})
  where
    no_answer : Shape f.vertex.node (kind_at c f.vertex.node) f.vertex → is_answer f.vertex.half ≡ false
    no_answer (inl (s, inl p)) = sym (ap (λ (w : Vertex). is_answer w.half) p)
    no_answer (inl (s, inr p)) = absurd (true≢false (ap (λ (w : Vertex). w.inlet) p ∙ f.no_inlet))
    no_answer (inr (s, p)) = sym (ap (λ (w : Vertex). is_answer w.half) p)

    operand : In e.vertex.node (operands_of c (kind_at c f.vertex.node))
    operand = subst (λ y. In y (operands_of c (kind_at c f.vertex.node))) (sym e.of_node) (subst (λ y. In a (operands_of c (kind_at c y))) (sym f.of_node) h)

-- no edge comes to an inlet
pub no-edge : (c : Code) (b d k : ℕ) (v : Vertex) → slice_get (vertices_in c b) k ≡ Some v → v.inlet ≡ true → In (d, k) (edges_among c (vertices_in c b)) → ⊥
no-edge c b d k v h i m =
    let e = in-fed c (vertices_in c b) (d, k) m in
    let p = feeds-parts c e.giver e.taker e.fed in
    let n : e.taker ≡ v = same_Some e.taker v (sym e.at_taker ∙ h) in
    go e.giver.node (at-shape c b k v h).0 (subst (λ (w : Vertex). is_answer w.half ≡ false) n p.1)
    (subst (λ (w : Vertex). In e.giver.node (operands_of c (kind_at c w.node))) n p.2)
  where
    go : (y : ℕ) → Shape v.node (kind_at c v.node) v → is_answer v.half ≡ false → In y (operands_of c (kind_at c v.node)) → ⊥
    go y (inl (s, inl p)) a o = true≢false (sym i ∙ sym (ap (λ (w : Vertex). w.inlet) p))
    go y (inl (s, inr p)) a o = true≢false (ap (λ (w : Vertex). is_answer w.half) p ∙ a)
    go y (inr (s, p)) a o = subst (In y) (inlet-no_operand c (kind_at c v.node) s (ap (λ (w : Vertex). w.inlet) p ∙ i)) o
