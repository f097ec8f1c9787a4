-- A class that ran is charged to a vertex of it: an instance that the state tells of, and of another class another one.
use Rattle.std.proofs.Common.{◌≡◌, ℕ, ◌<◌, Bool, true, false, List, [], ◌∷◌, zero, suc, Option, Some, None, slice_get, length, arith}
use Rattle.std.proofs.Common.{refl, sym, ap, subst, ◌∙◌, inl, inr, true≢false}
use Rattle.tam_word.proofs.Members.{In}
use Rattle.tam_graph.specs.declared.kind.Kind.{Kind}
use Rattle.tam_graph.specs.declared.kind.Kind.TheVariants.{Param, Const, Op as Operate, Seq, Call, Ret, Alloc, Fetch, Merge}
use Rattle.tam_graph.specs.declared.kind.Kind.TheVariants.{Enter}
use Rattle.tam_graph.specs.Graphs.{Code, Graph, kind_at, block_at, depth_at, operands_of, is_split, is_inlet, is_outlet}
use Rattle.tam_graph.specs.Accepted.{IsAccepted}
use Rattle.tam_split.specs.declared.vertex.Vertex.{Vertex}
use Rattle.tam_split.specs.Blocks.{block_graph, vertices_in, or_vertex, is_ask}
use Rattle.tam_split.specs.Partitions.{class_at}
use Rattle.tam_split.specs.GraphPartitions.{are_valid, partitions}
use Rattle.tam_split.proofs.Firers.{Shape, at-shape, node-block, firer-one, is_inner}
use Rattle.tam_split.proofs.BlockEdges.{same-giver}
use Rattle.tam_split.proofs.Classes.{IsParts, partition-parts, in-class_at}
use Rattle.tam_fire.specs.FiringRules.{Path, Value, Instance, IsActive, Giver as Of_giver, Firer as Of_firer}
use Rattle.tam_world.specs.Worlds.{activation_at, its_code}
use Rattle.tam_flow.specs.Journals.{State, has_run, parts_of_act}
use Rattle.tam_flow.specs.Told.{Tells, path_of, meant_at, HaveWords}
use Rattle.tam_flow.specs.Reached.{IsThere, IsReached, HasSome, HaveSome, Ran, kind_of}
use Rattle.tam_flow.proofs.SentOnce.{HasFired}
use Rattle.tam_flow.proofs.SoundStates.{IsSoundState}
use Rattle.tam_flow.proofs.FiredOutlets.{fired-ran}
use Rattle.tam_flow.proofs.Gifts.{gift}
use Rattle.tam_flow.proofs.Givers.{inner-gives}
use Rattle.tam_flow.proofs.Kept.{HasDone}
use Rattle.tam_flow.proofs.KeptRuns.{IsKeptState, IsTagged}
use Rattle.tl0_keep.proofs.code.RisingClasses.{part-is, partitions-parts}
use Rattle.tl0_keep.proofs.runs.Tallies.{givers-one, firers-one, mixed}
use Rattle.tl0_keep.proofs.runs.EventsOnce.{AreFull, partition-full, class-place}

-- ---- kinds

-- what is cut is an outlet
pub split-outlet : (k : Kind) → is_split k ≡ true → is_outlet k ≡ true
split-outlet (Call f) h = refl
split-outlet (Alloc n) h = refl
split-outlet (Fetch a i) h = refl
split-outlet k h = absurd (true≢false (sym h))

-- what is no inlet and no outlet is inner
inner-left : (k : Kind) → is_split k ≡ false → is_inlet k ≡ false → is_outlet k ≡ false → is_inner k ≡ true
inner-left (Const w) s i o = refl
inner-left (Operate q a b) s i o = refl
inner-left (Seq a b) s i o = refl
inner-left (Call f) s i o = absurd (true≢false s)
inner-left (Alloc f) s i o = absurd (true≢false s)
inner-left (Fetch a j) s i o = absurd (true≢false s)
inner-left (Param k) s i o = absurd (true≢false i)
inner-left (Ret f k) s i o = absurd (true≢false i)
inner-left (Merge d k) s i o = absurd (true≢false i)
inner-left (Enter k) s i o = absurd (true≢false i)
inner-left k s i o = absurd (true≢false o)

-- an outlet that isn't cut is no inlet
outlet-no_inlet : (k : Kind) → is_split k ≡ false → is_outlet k ≡ true → is_inlet k ≡ false
outlet-no_inlet (Param k) s o = absurd (true≢false (sym o))
outlet-no_inlet (Ret f k) s o = absurd (true≢false (sym o))
outlet-no_inlet (Merge d k) s o = absurd (true≢false (sym o))
outlet-no_inlet (Enter k) s o = absurd (true≢false (sym o))
outlet-no_inlet (Call f) s o = absurd (true≢false s)
outlet-no_inlet (Alloc f) s o = absurd (true≢false s)
outlet-no_inlet (Fetch a j) s o = absurd (true≢false s)
outlet-no_inlet k s o = refl

-- ---- vertices

-- a vertex as an instance: an outlet fires, any other gives its node's value
abbrev pub instance_of : Path → Vertex → Instance
instance_of q v = elim v.outlet [ true ↦ Of_firer q v.node | false ↦ Of_giver q v.node ]

-- an outlet is no inlet, and its node is an outlet
vertex-out : (v : Vertex) (k : Kind) → Shape v.node k v → v.outlet ≡ true → (v.inlet ≡ false) × (is_outlet k ≡ true)
vertex-out v k (inl (e, inl p)) o = (sym (ap (λ (w : Vertex). w.inlet) p), split-outlet k e)
vertex-out v k (inl (e, inr p)) o = absurd (true≢false (sym o ∙ sym (ap (λ (w : Vertex). w.outlet) p)))
vertex-out v k (inr (e, p)) o =
    let q : is_outlet k ≡ true = ap (λ (w : Vertex). w.outlet) p ∙ o in
    (sym (ap (λ (w : Vertex). w.inlet) p) ∙ outlet-no_inlet k e q, q)

-- what is no outlet is no ask
vertex-value : (v : Vertex) (k : Kind) → Shape v.node k v → v.outlet ≡ false → is_ask v.half ≡ false
vertex-value v k (inl (e, inl p)) o = absurd (true≢false (ap (λ (w : Vertex). w.outlet) p ∙ o))
vertex-value v k (inl (e, inr p)) o = sym (ap (λ (w : Vertex). is_ask w.half) p)
vertex-value v k (inr (e, p)) o = sym (ap (λ (w : Vertex). is_ask w.half) p)

-- and what is neither is of an inner node
vertex-inner : (v : Vertex) (k : Kind) → Shape v.node k v → v.outlet ≡ false → v.inlet ≡ false → is_inner k ≡ true
vertex-inner v k (inl (e, inl p)) o i = absurd (true≢false (ap (λ (w : Vertex). w.outlet) p ∙ o))
vertex-inner v k (inl (e, inr p)) o i = absurd (true≢false (ap (λ (w : Vertex). w.inlet) p ∙ i))
vertex-inner v k (inr (e, p)) o i = inner-left k e (ap (λ (w : Vertex). w.inlet) p ∙ i) (ap (λ (w : Vertex). w.outlet) p ∙ o)

-- one instance has one path, one node, and is an outlet or not
instances-one : (a b : Path) (v w : Vertex) → instance_of a v ≡ instance_of b w → (a ≡ b) × (v.node ≡ w.node) × (v.outlet ≡ w.outlet)
instances-one a b v w e = go v.outlet w.outlet refl refl
  where
    go : (s t : Bool) → v.outlet ≡ s → w.outlet ≡ t → (a ≡ b) × (v.node ≡ w.node) × (v.outlet ≡ w.outlet)
    go true true p q = let r = firers-one (rw (p, q) at e) in (r.0, r.1, p ∙ sym q)
    go false false p q = let r = givers-one (rw (p, q) at e) in (r.0, r.1, p ∙ sym q)
    go true false p q = absurd (mixed (rw (p, q) at e))
    go false true p q = absurd (mixed (sym (rw (p, q) at e)))

-- two vertices of a block that are one instance stand at one place
places-one : (c : Code) (b j k : ℕ) (v w : Vertex) → slice_get (vertices_in c b) j ≡ Some v → slice_get (vertices_in c b) k ≡ Some w
    → v.node ≡ w.node → v.outlet ≡ w.outlet → j ≡ k
places-one c b j k v w p q n o = go v.outlet refl
  where
    go : (t : Bool) → v.outlet ≡ t → j ≡ k
    go true e = firer-one c b j k v.node
        (record { vertex = v; stands = p; of_node = refl; no_inlet = (vertex-out v (kind_at c v.node) (at-shape c b j v p).0 e).0 })
        (record { vertex = w; stands = q; of_node = sym n; no_inlet = (vertex-out w (kind_at c w.node) (at-shape c b k w q).0 (sym o ∙ e)).0 })
    go false e = same-giver c b j k v w p q n (vertex-value v (kind_at c v.node) (at-shape c b j v p).0 e)
        (vertex-value w (kind_at c w.node) (at-shape c b k w q).0 (sym o ∙ e))

module _ (g : Graph) (args : List ℕ) (accepted : IsAccepted g) (valid : are_valid g (partitions g) ≡ true) (s : State) (sound : IsSoundState g args s)
    (state : IsKeptState g (partitions g) s) (reached : IsReached g (partitions g) args s) where
  -- a node with a word has a value told
  pub giver-told : (i x : ℕ) → IsThere s.world i → HasSome s i x → IsActive (Tells g (partitions g) s) (Of_giver (path_of s.world i) x)
  giver-told i x l (u, h) = (meant_at s.world (kind_at (its_code g s.world i) x) (depth_at (its_code g s.world i) x) u, (i, (l, refl), (u, h, refl)))

  -- words of operands mean values
  have-words : (i : ℕ) (xs : List ℕ) → HaveSome s i xs → (vs : List Value) × HaveWords g s.world i xs vs
  have-words i [] h = ([], tt)
  have-words i (x ∷ xs) (a, h) =
      let r = have-words i xs h in
      (meant_at s.world (kind_at (its_code g s.world i) x) (depth_at (its_code g s.world i) x) a.0 ∷ r.0, ((a.0, a.1, refl), r.1))

  -- an outlet that ran is told to have fired
  pub firer-told : (i x : ℕ) → IsThere s.world i → is_outlet (kind_of g s.world i x) ≡ true → Ran g (partitions g) s i x
      → IsActive (Tells g (partitions g) s) (Of_firer (path_of s.world i) x)
  firer-told i x l o r =
      let v = have-words i (operands_of (its_code g s.world i) (kind_at (its_code g s.world i) x)) (reached.words.operands_ready i x r) in
      (v.0, (i, (l, refl), o, r, v.1))

  -- a vertex of class k of block b of activation i, told of
  pub record OfClass (r : ℕ × ℕ × ℕ) (y : Instance) : Type 0 where
    pub act : IsThere s.world r.0
    pub owned : r.1 < length (its_code g s.world r.0).owners
    pub place : ℕ
    pub vertex : Vertex
    pub stands : slice_get (vertices_in (its_code g s.world r.0) r.1) place ≡ Some vertex
    pub inside : In place (class_at (parts_of_act g (partitions g) s r.0 r.1) r.2)
    pub is : y ≡ instance_of (path_of s.world r.0) vertex
    pub active : IsActive (Tells g (partitions g) s) y

  -- the partition of a block of an activation that is there
  parts-in : (i b : ℕ) → IsThere s.world i → b < length (its_code g s.world i).owners
      → IsParts (length (block_graph (its_code g s.world i) b).vertices) (parts_of_act g (partitions g) s i b)
  parts-in i b l o =
      let n = reached.activations.codes i l in
      partition-parts (block_graph (its_code g s.world i) b) (parts_of_act g (partitions g) s i b)
      (((partitions-parts g accepted).each (activation_at s.world i).code n).parts b o)

  -- each class that ran has one
  pub class-charged : (i b k : ℕ) → has_run s i b k ≡ true → (y : Instance) × OfClass (i, b, k) y
  class-charged i b k ran = at (slice_get (vertices_in (its_code g s.world i) b) place.0) refl
    where
      there : IsThere s.world i
      there = (reached.words.runs_there i b k ran).0

      owned : b < length (its_code g s.world i).owners
      owned = reached.activations.blocks i b there (reached.words.runs_there i b k ran).1

      place : (x : ℕ) × In x (class_at (parts_of_act g (partitions g) s i b) k)
      place = class-place (parts_of_act g (partitions g) s i b) k (reached.words.runs_there i b k ran).2
          (subst AreFull (sym (part-is g accepted (activation_at s.world i).code b (reached.activations.codes i there) owned))
          (partition-full (block_graph (its_code g s.world i) b)))

      within : place.0 < length (vertices_in (its_code g s.world i) b)
      within = (parts-in i b there owned).inside k place.0 (in-class_at (parts_of_act g (partitions g) s i b) k place.0 place.1)

      fired : (v : Vertex) → slice_get (vertices_in (its_code g s.world i) b) place.0 ≡ Some v → v.inlet ≡ false → HasFired g (partitions g) s i v.node
      fired v e n = record {
        there = there;
        code = (activation_at s.world i).code;
        block = b;
        class = k;
        place = place.0;
        is_code = refl;
        ran = ran;
        inside = place.1;
        within = within;
        no_inlet = ap (λ (o : Option Vertex). (or_vertex o).inlet) e ∙ n;
        node = ap (λ (o : Option Vertex). (or_vertex o).node) e;
      }

      -- an inner node that fired has given itself a word
      inner-word : (x : ℕ) → is_inner (kind_at (its_code g s.world i) x) ≡ true → HasDone g s.world (IsTagged state.tags i x) i x → HasSome s i x
      inner-word x n h = (
        (gift (its_code g s.world i) x (kind_at (its_code g s.world i) x) h.words).1,
        h.gave x (inner-gives (its_code g s.world i) x (kind_at (its_code g s.world i) x) s.world i h.words n h.have),
      )

      told : (v : Vertex) → slice_get (vertices_in (its_code g s.world i) b) place.0 ≡ Some v
          → IsActive (Tells g (partitions g) s) (instance_of (path_of s.world i) v)
      told v e = go v.outlet refl
        where
          shape : Shape v.node (kind_at (its_code g s.world i) v.node) v
          shape = (at-shape (its_code g s.world i) b place.0 v e).0

          value : v.outlet ≡ false → (t : Bool) → v.inlet ≡ t → HasSome s i v.node
          value o true n = subst (λ z. HasSome s i z) (ap (λ (o : Option Vertex). (or_vertex o).node) e)
              (state.inlets i b k place.0 ran place.1 (ap (λ (o : Option Vertex). (or_vertex o).inlet) e ∙ n))
          value o false n = inner-word v.node (vertex-inner v (kind_at (its_code g s.world i) v.node) shape o n) (state.kept.done i v.node (fired v e n))

          go : (t : Bool) → v.outlet ≡ t → IsActive (Tells g (partitions g) s) (instance_of (path_of s.world i) v)
          go true o =
              let r = vertex-out v (kind_at (its_code g s.world i) v.node) shape o in
              rw (instance_of, o) (firer-told i v.node there r.1 (fired-ran g args (partitions g) s valid sound i v.node (fired v e r.0) r.1))
          go false o = rw (instance_of, o) (giver-told i v.node there (value o v.inlet refl))

      at : (o : Option Vertex) → slice_get (vertices_in (its_code g s.world i) b) place.0 ≡ o → (y : Instance) × OfClass (i, b, k) y
      at None e = absurd (past (vertices_in (its_code g s.world i) b) place.0 within e)
        where
          past : (vs : List Vertex) (n : ℕ) → n < length vs → slice_get vs n ≡ None → ⊥
          past [] n l q = absurd (omega arith)
          past (v ∷ vs) zero l q = cc
          past (v ∷ vs) (suc n) l q = past vs n (omega arith) q
      at (Some v) e = (
        instance_of (path_of s.world i) v,
        record { act = there; owned = owned; place = place.0; vertex = v; stands = e; inside = place.1; is = refl; active = told v e },
      )

  -- and another class has another one
  pub classes-apart : (r t : ℕ × ℕ × ℕ) (y : Instance) → OfClass r y → OfClass t y → r ≡ t
  classes-apart r t y h k =
      let e = instances-one (path_of s.world r.0) (path_of s.world t.0) h.vertex k.vertex (sym h.is ∙ k.is) in
      go r.0 r.1 r.2 t.0 t.1 t.2 (reached.activations.paths_differ r.0 t.0 h.act k.act e.0) h.act h.owned h.place k.place h.vertex k.vertex h.stands k.stands
      h.inside k.inside e.1 e.2
    where
      go : (i b k j d l : ℕ) → i ≡ j → IsThere s.world i → b < length (its_code g s.world i).owners → (p q : ℕ) (v w : Vertex)
          → slice_get (vertices_in (its_code g s.world i) b) p ≡ Some v → slice_get (vertices_in (its_code g s.world j) d) q ≡ Some w
          → In p (class_at (parts_of_act g (partitions g) s i b) k) → In q (class_at (parts_of_act g (partitions g) s j d) l)
          → v.node ≡ w.node → v.outlet ≡ w.outlet → ◌≡◌ {A = ℕ × ℕ × ℕ} (i, b, k) (j, d, l)
      go i b k j d l same there owned p q v w a f x z n o =
          let f = subst (λ m. slice_get (vertices_in (its_code g s.world m) d) q ≡ Some w) (sym same) f in
          let z = subst (λ m. In q (class_at (parts_of_act g (partitions g) s m d) l)) (sym same) z in
          let c = its_code g s.world i in
          let block : b ≡ d = sym (node-block c b v.node (at-shape c b p v a).1) ∙ (ap (block_at c) n ∙ node-block c d w.node (at-shape c d q w f).1) in
          let f = subst (λ m. slice_get (vertices_in c m) q ≡ Some w) (sym block) f in
          let z = subst (λ m. In q (class_at (parts_of_act g (partitions g) s i m) l)) (sym block) z in
          let place : p ≡ q = places-one c b p q v w a f n o in
          let z = subst (λ m. In m (class_at (parts_of_act g (partitions g) s i b) l)) (sym place) z in
          let class : k ≡ l = (parts-in i b there owned).once p k l (in-class_at (parts_of_act g (partitions g) s i b) k p x)
          (in-class_at (parts_of_act g (partitions g) s i b) l p z) in
          ap {B = ℕ × ℕ × ℕ} (λ m. (m, b, k)) same ∙ (ap {B = ℕ × ℕ × ℕ} (λ m. (j, m, k)) block ∙ ap {B = ℕ × ℕ × ℕ} (λ m. (j, d, m)) class)
