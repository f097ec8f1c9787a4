-- Who starts a connector: the thread of the class in which its cond or switch fires, and no other.
use Rattle.std.proofs.Common.{◌≡◌, ℕ, ◌<◌, Bool, true, false, List, [], ◌∷◌, ◌++◌, filter, flat_map, length, refl, sym, ap, ap₂, subst, ◌∙◌, ◌==◌, inl, inr}
use Rattle.std.proofs.Common.{◌⊎◌, true≢false}
use Rattle.tam_word.specs.Lists.{below}
use Rattle.tam_word.proofs.Members.{In, in-append, in-flat_map, flat_map-in, left-in, in-filter, in-below, has-in, in-has}
use Rattle.tam_graph.specs.declared.kind.Kind.{Kind}
use Rattle.tam_graph.specs.declared.kind.Kind.TheVariants.{Const, Op as Operator, Seq, Call, Arg, Give, Alloc, Fetch, Store, Cond, Switch as Choose, Leave}
use Rattle.tam_graph.specs.Graphs.{Code, Graph, kind_at, block_at, owner_of, node_in, nodes_in, node_numbers, is_enter, fires}
use Rattle.tam_split.specs.declared.vertex.Vertex.{Vertex}
use Rattle.tam_split.specs.Blocks.{block_graph, vertex_at}
use Rattle.tam_split.specs.Partitions.{Parts, class_of, class_at, directly_before}
use Rattle.tam_split.specs.GraphPartitions.{firing_order}
use Rattle.tam_split.proofs.BlockVertices.{place-at, at-vertex}
use Rattle.tam_split.proofs.Firers.{at-shape, node-block, firer-at, firer-within}
use Rattle.tam_split.proofs.Classes.{partition-parts, in-class_at, stands-in, class-stands}
use Rattle.tam_flow.proofs.Acyclic.{order-all}
use Rattle.tam_flow.proofs.Pairs.{fires-once}
use Rattle.tl0_code.specs.declared.instr.Instr.{Instr}
use Rattle.tl0_code.specs.declared.instr.Instr.TheVariants.{Imm, Mov, Op as Operate, Fork, Switch, Falloc, Send, Ret, Ialloc, Ifetch, Istore, Skip}
use Rattle.tl0_keep.specs.Compiled.{parts_at, instrs_of, vertex_instrs, forks_to, is_choosing, entry_classes, yes_of, no_of}
use Rattle.tl0_keep.proofs.code.ThreadKinds.{AreParts, ThreadKind, Entry, Class, Then_of, Else_of, IsThread, number_of_thread, thread_for}
use Rattle.tl0_keep.proofs.code.ThreadKinds.{then_thread, else_thread}
use Rattle.tl0_keep.proofs.code.ThreadKinds.{merges_of}
use Rattle.tl0_keep.proofs.code.ThreadNumbers.{number-one}
use Rattle.tl0_keep.proofs.code.Sources.{class-inside}
use Rattle.tl0_keep.proofs.code.Forks.{order-in}
use Rattle.tl0_keep.proofs.code.ClassInstrs.{gifts_to, leave-gifts}

-- the pairs of threads between which instructions choose
abbrev pub switches_in : List Instr → List (ℕ × ℕ)
switches_in [] = []
switches_in (Switch s t u ∷ is) = (t, u) ∷ switches_in is
switches_in (i ∷ is) = switches_in is

-- of two lists
switches-append : (is js : List Instr) → switches_in (is ++ js) ≡ switches_in is ++ switches_in js
switches-append [] js = refl
switches-append (Imm d w ∷ is) js = switches-append is js
switches-append (Mov d a ∷ is) js = switches-append is js
switches-append (Operate o d a b ∷ is) js = switches-append is js
switches-append (Fork t ∷ is) js = switches-append is js
switches-append (Switch s t u ∷ is) js = ap (λ l. (t, u) ∷ l) (switches-append is js)
switches-append (Falloc d i ∷ is) js = switches-append is js
switches-append (Send f p a ∷ is) js = switches-append is js
switches-append (Ret k a ∷ is) js = switches-append is js
switches-append (Ialloc n i ∷ is) js = switches-append is js
switches-append (Ifetch r x i n ∷ is) js = switches-append is js
switches-append (Istore r x a n ∷ is) js = switches-append is js
switches-append (Skip n ∷ is) js = switches-append is js

-- of many
switches-flat : {X : Type 0} (f : X → List Instr) (xs : List X) → switches_in (flat_map f xs) ≡ flat_map (λ x. switches_in (f x)) xs
switches-flat f [] = refl
switches-flat f (x ∷ xs) = switches-append (f x) (flat_map f xs) ∙ ap (λ l. switches_in (f x) ++ l) (switches-flat f xs)

-- forks choose nothing
switches-forks : (ps : List Parts) (b : ℕ) (ks : List ℕ) → switches_in (forks_to ps b ks) ≡ []
switches-forks ps b [] = refl
switches-forks ps b (k ∷ ks) = switches-forks ps b ks

-- nor do gifts
switches-gifts : (c : Code) (ps : List Parts) (a : ℕ) (ms : List ℕ) → switches_in (gifts_to c ps a ms) ≡ []
switches-gifts c ps a [] = refl
switches-gifts c ps a (m ∷ ms) = switches-gifts c ps a ms

module _ (g : Graph) (c : Code) (ps : List Parts) where
  -- a class in which node x fires, which chooses between its connectors
  pub record Chooses (t : ThreadKind) (z : ℕ × ℕ) : Type 0 where
    pub block : ℕ
    pub class : ℕ
    pub place : ℕ
    pub thread : t ≡ Class block class
    pub among : In place (class_at (parts_at ps block) class)
    pub no_inlet : (vertex_at (block_graph c block) place).inlet ≡ false
    pub chooses : is_choosing (kind_at c (vertex_at (block_graph c block) place).node) ≡ true
    pub is : z ≡ (
      number_of_thread c ps (Then_of (vertex_at (block_graph c block) place).node),
      number_of_thread c ps
          (Else_of (vertex_at (block_graph c block) place).node),
    )

  -- a node that chooses does so between its connectors, and no other node chooses
  node-switch : (x : ℕ) (k : Kind) (z : ℕ × ℕ) → In z (switches_in (instrs_of g c ps x k))
      → (is_choosing k ≡ true) × (z ≡ (number_of_thread c ps (Then_of x), number_of_thread c ps (Else_of x)))
  node-switch x (Const w) z m = absurd m
  node-switch x (Operator o a b) z m = absurd m
  node-switch x (Seq a b) z m = absurd m
  node-switch x (Call d) z m = absurd m
  node-switch x (Arg f k a) z m = absurd m
  node-switch x (Give k a) z m = absurd m
  node-switch x (Alloc a) z m = absurd m
  node-switch x (Fetch a i) z m = absurd m
  node-switch x (Store a i v) z m = absurd m
  node-switch x (Cond p y n) z (inl e) = (refl, sym e)
  node-switch x (Cond p y n) z (inr m) = absurd m
  node-switch x (Choose d k a) z (inl e) = (refl, sym e)
  node-switch x (Choose d k a) z (inr m) = absurd m
  node-switch x (Leave k a) z m =
      let owners = owner_of c (block_at c x) in
      absurd (subst (In z) (ap switches_in (leave-gifts c ps k a owners) ∙ switches-gifts c ps a (merges_of c k owners)) m)
  node-switch x k z m = absurd m

  -- what a thread chooses between are the connectors of a node of its class
  pub chooses-of : (t : ThreadKind) (z : ℕ × ℕ) → In z (switches_in (thread_for g c ps t).instrs) → Chooses t z
  chooses-of Entry z m = absurd (subst (In z) (switches-forks ps 0 (entry_classes (block_graph c 0) (parts_at ps 0))) m)
  chooses-of (Then_of x) z m = absurd (go (kind_at c x) m)
    where
      go : (k : Kind) → In z (switches_in (then_thread c ps x k).instrs) → ⊥
      go (Cond p y n) a = subst (In z) (switches-forks ps y (entry_classes (block_graph c y) (parts_at ps y))) a
      go (Choose d k v) a = subst (In z) (switches-gifts c ps v (node_in c (yes_of (kind_at c d)) (is_enter k))) a
      go k a = a
  chooses-of (Else_of x) z m = absurd (go (kind_at c x) m)
    where
      go : (k : Kind) → In z (switches_in (else_thread c ps x k).instrs) → ⊥
      go (Cond p y n) a = subst (In z) (switches-forks ps n (entry_classes (block_graph c n) (parts_at ps n))) a
      go (Choose d k v) a = subst (In z) (switches-gifts c ps v (node_in c (no_of (kind_at c d)) (is_enter k))) a
      go k a = a
  chooses-of (Class b k) z m =
      let order = firing_order (block_graph c b).edges (class_at (parts_at ps b) k) in
      let vertices = flat_map (λ x. vertex_instrs g c ps (vertex_at (block_graph c b) x)) order in
      let behind = filter (λ d. directly_before (block_graph c b).edges (parts_at ps b) k d) (below (length (parts_at ps b))) in
      whole (in-append z (switches_in vertices) (switches_in (forks_to ps b behind)) (subst (In z) (switches-append vertices (forks_to ps b behind)) m))
    where
      vertex : (y : ℕ) (v : Vertex) → vertex_at (block_graph c b) y ≡ v → In y (class_at (parts_at ps b) k) → In z (switches_in (vertex_instrs g c ps v))
          → Chooses (Class b k) z
      vertex y v e h a = go v.inlet refl a
        where
          go : (s : Bool) → v.inlet ≡ s → In z (switches_in (elim s [ true ↦ [] | false ↦ instrs_of g c ps v.node (kind_at c v.node) ])) → Chooses (Class b k) z
          go true q w = absurd w
          go false q w =
              let r = node-switch v.node (kind_at c v.node) z w in
              record {
                block = b;
                class = k;
                place = y;
                thread = refl;
                among = h;
                no_inlet = ap (λ (u : Vertex). u.inlet) e ∙ q;
                chooses = subst (λ (u : Vertex). is_choosing (kind_at c u.node) ≡ true) (sym e) r.0;
                is = subst (λ (u : Vertex). z ≡ (number_of_thread c ps (Then_of u.node), number_of_thread c ps (Else_of u.node))) (sym e) r.1;
              }

      whole : In z (switches_in (flat_map (λ x. vertex_instrs g c ps (vertex_at (block_graph c b) x))
          (firing_order (block_graph c b).edges (class_at (parts_at ps b) k))))
          ⊎ In z (switches_in (forks_to ps b (filter (λ d. directly_before (block_graph c b).edges (parts_at ps b) k d) (below (length (parts_at ps b))))))
          → Chooses (Class b k) z
      whole (inl a) =
          let order = firing_order (block_graph c b).edges (class_at (parts_at ps b) k) in
          let r = in-flat_map (λ x. switches_in (vertex_instrs g c ps (vertex_at (block_graph c b) x))) z order
          (subst (In z) (switches-flat (λ x. vertex_instrs g c ps (vertex_at (block_graph c b) x)) order) a) in
          vertex r.0 (vertex_at (block_graph c b) r.0) refl (order-in (block_graph c b).edges (class_at (parts_at ps b) k) r.0 r.1) r.2
      whole (inr a) =
          absurd (subst (In z) (switches-forks ps b (filter (λ d. directly_before (block_graph c b).edges (parts_at ps b) k d)
          (below (length (parts_at ps b))))) a)

  -- a connector is started by the thread of one class alone
  module _ (parts : AreParts c ps) where
    -- a place that chooses has a node of the block
    chooses-node : (t : ThreadKind) (z : ℕ × ℕ) → IsThread c ps t → (r : Chooses t z)
        → (r.block < length c.owners) × (r.place < length (block_graph c r.block).vertices)
        × In (vertex_at (block_graph c r.block) r.place).node (nodes_in c r.block)
    chooses-node t z h r =
        let low : r.block < length c.owners = (subst (IsThread c ps) r.thread h).0 in
        let inside = class-inside c ps parts r.block r.class r.place low r.among in
        (low, inside, (at-shape c r.block r.place (vertex_at (block_graph c r.block) r.place) (place-at c r.block r.place inside)).1)

    -- the node has both connectors
    chooses-thread : (t : ThreadKind) (z : ℕ × ℕ) → IsThread c ps t → (r : Chooses t z)
        → IsThread c ps (Then_of (vertex_at (block_graph c r.block) r.place).node)
    chooses-thread t z h r =
        let n = (chooses-node t z h r).2 in
        (in-below _ (length c.nodes) (in-filter (λ x. block_at c x == r.block) _ (node_numbers c) n).0, r.chooses)

    -- classes in which one node fires are one
    class-one : (b d k j y v : ℕ) → b < length c.owners → y < length (block_graph c b).vertices → v < length (block_graph c d).vertices
        → In y (class_at (parts_at ps b) k) → In v (class_at (parts_at ps d) j) → (vertex_at (block_graph c b) y).inlet ≡ false
        → (vertex_at (block_graph c d) v).inlet ≡ false → (vertex_at (block_graph c b) y).node ≡ (vertex_at (block_graph c d) v).node → d ≡ b
        → Class b k ≡ Class d j
    class-one b d k j y v l m n p q s t e same =
        let place = fires-once c b y v m (subst (λ a. v < length (block_graph c a).vertices) same n) s
        (subst (λ a. (vertex_at (block_graph c a) v).inlet ≡ false) same t)
        (subst (λ a. (vertex_at (block_graph c b) y).node ≡ (vertex_at (block_graph c a) v).node) same e) in
        let here = subst (λ w. In w (class_at (parts_at ps b) j)) (sym place) (subst (λ a. In v (class_at (parts_at ps a) j)) same q) in
        let once = (partition-parts (block_graph c b) (parts_at ps b) (parts.parts b l)).once in
        ap₂ Class (sym same) (once y k j (in-class_at (parts_at ps b) k y p) (in-class_at (parts_at ps b) j y here))

    -- so two threads that may start one connector are one
    pub chooser-one : (t u : ThreadKind) (z w : ℕ × ℕ) → IsThread c ps t → IsThread c ps u → Chooses t z → Chooses u w → (z.0 ≡ w.0) ⊎ (z.1 ≡ w.1) → t ≡ u
    chooser-one t u z w h i r s e =
        let a = chooses-node t z h r in
        let b = chooses-node u w i s in
        let node = same e in
        let block : s.block ≡ r.block =
        sym (node-block c s.block (vertex_at (block_graph c s.block) s.place).node b.2)
        ∙ (ap (block_at c) (sym node) ∙ node-block c r.block (vertex_at (block_graph c r.block) r.place).node a.2) in
        r.thread ∙ (class-one r.block s.block r.class s.class r.place s.place a.0 a.1 b.1 r.among s.among r.no_inlet s.no_inlet node block ∙ sym s.thread)
      where
        then-node : (x y : ℕ) → Then_of x ≡ Then_of y → x ≡ y
        then-node x y q = cc

        else-node : (x y : ℕ) → Else_of x ≡ Else_of y → x ≡ y
        else-node x y q = cc

        same : (z.0 ≡ w.0) ⊎ (z.1 ≡ w.1) → (vertex_at (block_graph c r.block) r.place).node ≡ (vertex_at (block_graph c s.block) s.place).node
        same (inl q) =
            then-node _ _ (number-one g c ps parts.blocks (Then_of _) (Then_of _) (chooses-thread t z h r) (chooses-thread u w i s)
            (sym (ap (λ (k : ℕ × ℕ). k.0) r.is) ∙ (q ∙ ap (λ (k : ℕ × ℕ). k.0) s.is)))
        same (inr q) =
            else-node _ _ (number-one g c ps parts.blocks (Else_of _) (Else_of _) (chooses-thread t z h r) (chooses-thread u w i s)
            (sym (ap (λ (k : ℕ × ℕ). k.1) r.is) ∙ (q ∙ ap (λ (k : ℕ × ℕ). k.1) s.is)))

    -- and each node that chooses does so in the thread of its class
    pub chooser-found : (x : ℕ) → block_at c x < length c.owners → is_choosing (kind_at c x) ≡ true
        → (k : ℕ) × In (number_of_thread c ps (Then_of x), number_of_thread c ps (Else_of x)) (switches_in (thread_for g c ps (Class (block_at c x) k)).instrs)
    chooser-found x l h =
        let r = firer-at c x (choosing-fires (kind_at c x) h) in
        let f = r.1 in
        let b = block_at c x in
        let p = partition-parts (block_graph c b) (parts_at ps b) (parts.parts b l) in
        let k = class_of (parts_at ps b) r.0 in
        let stands = stands-in (parts_at ps b) k r.0 (class-stands (parts_at ps b) r.0 (p.in_one r.0 (firer-within c b r.0 x f))) in
        let order = firing_order (block_graph c b).edges (class_at (parts_at ps b) k) in
        let vertices = flat_map (λ y. vertex_instrs g c ps (vertex_at (block_graph c b) y)) order in
        let behind = filter (λ d. directly_before (block_graph c b).edges (parts_at ps b) k d) (below (length (parts_at ps b))) in
        let among = has-in order r.0 (order-all (block_graph c b).edges (class_at (parts_at ps b) k) r.0 (in-has (class_at (parts_at ps b) k) r.0 stands)) in
        let v : vertex_at (block_graph c b) r.0 ≡ f.vertex = at-vertex c b r.0 f.vertex f.stands in
        let here = subst (λ (u : Vertex). In (pair x) (switches_in (vertex_instrs g c ps u))) (sym v) (own f.vertex f.of_node f.no_inlet) in (
          k,
          subst (In (pair x)) (sym (switches-append vertices (forks_to ps b behind)))
              (left-in (pair x) (switches_in vertices) (switches_in (forks_to ps b behind))
              (subst (In (pair x)) (sym (switches-flat (λ y. vertex_instrs g c ps (vertex_at (block_graph c b) y)) order))
              (flat_map-in (λ y. switches_in (vertex_instrs g c ps (vertex_at (block_graph c b) y))) r.0 (pair x) order among here))),
        )
      where
        pair : ℕ → ℕ × ℕ
        pair y = (number_of_thread c ps (Then_of y), number_of_thread c ps (Else_of y))

        choosing-fires : (k : Kind) → is_choosing k ≡ true → fires k ≡ true
        choosing-fires (Cond p y n) e = refl
        choosing-fires (Choose d k a) e = refl
        choosing-fires k e = absurd (true≢false (sym e))

        chooses : (y : ℕ) (k : Kind) → is_choosing k ≡ true → In {X = ℕ × ℕ} (number_of_thread c ps (Then_of y), number_of_thread c ps (Else_of y))
            (switches_in (instrs_of g c ps y k))
        chooses y (Cond p u n) e = inl refl
        chooses y (Choose d k a) e = inl refl
        chooses y k e = absurd (true≢false (sym e))

        own : (v : Vertex) → v.node ≡ x → v.inlet ≡ false
            → In {X = ℕ × ℕ} (number_of_thread c ps (Then_of x), number_of_thread c ps (Else_of x)) (switches_in (vertex_instrs g c ps v))
        own v e i = rw (vertex_instrs, i, e) (chooses x (kind_at c x) h)
