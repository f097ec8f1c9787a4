-- Journals over one class per vertex: when a vertex may run, and what its run does.
use Rattle.std.proofs.Common.{◌≡◌, ℕ, ◌<◌, Bool, true, false, not, nat_lt, [], ◌∷◌, ◌++◌, refl, sym, subst, ap, inl, inr, ◌∙◌, true≢false}
use Rattle.std.proofs.Common.{length, slice_get, Some}
use Rattle.std.proofs.lemmas.Option.{slice_get_within}
use Rattle.tam_word.specs.Lists.{below}
use Rattle.tam_word.proofs.Tests.{both-true, not-true}
use Rattle.tam_word.proofs.Members.{In, in-all, all-in, below-in}
use Rattle.tam_graph.specs.Edges.{Edges}
use Rattle.tam_graph.specs.Graphs.{Code, Graph, kind_at, operands_of}
use Rattle.tam_split.specs.declared.vertex.Vertex.{Vertex}
use Rattle.tam_split.specs.Blocks.{vertex_at, vertices_in, or_vertex, edges_among}
use Rattle.tam_split.specs.Partitions.{Parts, class_at, directly_before, single}
use Rattle.tam_split.specs.GraphPartitions.{Partitions, singles, firing_order}
use Rattle.tam_split.proofs.BlockEdges.{in-fed}
use Rattle.tam_split.proofs.Partitioning.{length-single}
use Rattle.tam_split.proofs.Singles.{class_at-single, firing-single, before-edge, edge-before, parts-single}
use Rattle.tam_split.proofs.Firers.{Firer, Giver, edge-operand, no-edge}
use Rattle.tam_world.specs.Worlds.{World, Effect, activation_at, its_code, has_word, has_entered, fired}
use Rattle.tam_flow.specs.Journals.{State, may_run, has_run, inlets_have_words, those_before_ran, class_fired, fire_each}
use Rattle.tam_flow.specs.Journals.{block_of_act, parts_of_act}
use Rattle.tam_flow.specs.Reached.{IsThere}
use Rattle.tam_word.proofs.Tests.{below-test, test-below}

-- the activation's code and the block are there
pub record BlockThere (g : Graph) (w : World) (i b : ℕ) : Type 0 where
  pub act : IsThere w i
  pub code : (activation_at w i).code < length g.codes
  pub block : b < length (its_code g w i).owners

-- place k of block b of activation i has an inlet of node x
pub record InletAt (c : Code) (b k x : ℕ) : Type 0 where
  pub vertex : Vertex
  pub stands : slice_get (vertices_in c b) k ≡ Some vertex
  pub of_node : vertex.node ≡ x
  pub inlet : vertex.inlet ≡ true

-- what is asked of a vertex: where it is an inlet it has a word
abbrev inlet_has : State → ℕ → Vertex → Bool
inlet_has s i u = elim u.inlet [ true ↦ has_word s.world i u.node | false ↦ true ]

-- what is asked of a class: where it is directly before another it has run
abbrev before_has : State → ℕ → ℕ → Edges → Parts → ℕ → ℕ → Bool
before_has s i b es parts k d = elim (directly_before es parts d k) [ true ↦ has_run s i b d | false ↦ true ]

-- an effect with what a vertex does behind it, where the vertex is no inlet
abbrev then_one : Graph → ℕ → Effect → Vertex → Effect
then_one g i e v = elim v.inlet [
  | true ↦ e
  | false ↦ record { world = (fired g e.world i v.node).world; sends = e.sends ++ (fired g e.world i v.node).sends }
]

-- both ends of an edge are places
edge-places : (c : Code) (b : ℕ) (e : ℕ × ℕ) → In e (edges_among c (vertices_in c b)) → (e.0 < length (vertices_in c b)) × (e.1 < length (vertices_in c b))
edge-places c b e h =
    let f = in-fed c (vertices_in c b) e h in
    (slice_get_within (vertices_in c b) e.0 f.giver f.at_giver, slice_get_within (vertices_in c b) e.1 f.taker f.at_taker)

-- the parts of the test
pub record MayRun (g : Graph) (all : Partitions) (s : State) (i b k : ℕ) : Type 0 where
  pub act : IsThere s.world i
  pub class : k < length (parts_of_act g all s i b)
  pub not_ran : has_run s i b k ≡ false
  pub entered : has_entered s.world i b ≡ true
  pub words : inlets_have_words (block_of_act g s i b) s i (class_at (parts_of_act g all s i b) k) ≡ true
  pub before : those_before_ran (block_of_act g s i b) (parts_of_act g all s i b) s i b k ≡ true

-- where the test passes they hold
pub may_run-parts : (g : Graph) (all : Partitions) (s : State) (i b k : ℕ) → may_run g all s i b k ≡ true → MayRun g all s i b k
may_run-parts g all s i b k h =
    let p = both-true (nat_lt i (length s.world.activations)) _ h in
    let q = both-true (nat_lt k (length (parts_of_act g all s i b))) _ p.1 in
    let r = both-true (not (has_run s i b k)) _ q.1 in
    let t = both-true (has_entered s.world i b) _ r.1 in
    let u = both-true (inlets_have_words (block_of_act g s i b) s i (class_at (parts_of_act g all s i b) k)) _ t.1 in
    record {
      act = test-below i (length s.world.activations) p.0;
      class = test-below k (length (parts_of_act g all s i b)) q.0;
      not_ran = not-true (has_run s i b k) r.0;
      entered = t.0;
      words = u.0;
      before = u.1;
    }

-- and the other way round
pub parts-may_run : (g : Graph) (all : Partitions) (s : State) (i b k : ℕ) → MayRun g all s i b k → may_run g all s i b k ≡ true
parts-may_run g all s i b k h =
    rw (
      below-test i (length s.world.activations) h.act,
      below-test k
          (length (parts_of_act g all s i b)) h.class,
      h.not_ran,
      h.entered,
      h.words,
      h.before,
    ) refl

module _ (g : Graph) (s : State) (i b : ℕ) (there : BlockThere g s.world i b) where
  -- the code of the activation
  abbrev c : Code
  c = its_code g s.world i

  -- the partition of the block
  parts-are : parts_of_act g (singles g) s i b ≡ single (length (vertices_in c b))
  parts-are = parts-single g (activation_at s.world i).code b there.code there.block

  -- there are as many classes as places
  pub classes : length (parts_of_act g (singles g) s i b) ≡ length (vertices_in c b)
  classes = ap (λ (ps : Parts). length ps) parts-are ∙ length-single (length (vertices_in c b))

  -- class k is place k alone
  class-is : (k : ℕ) → k < length (vertices_in c b) → class_at (parts_of_act g (singles g) s i b) k ≡ k ∷ []
  class-is k h = ap (λ ps. class_at ps k) parts-are ∙ class_at-single (length (vertices_in c b)) k h

  -- its inlets have words where it is none, or has one
  pub words-of : (k : ℕ) (v : Vertex) → slice_get (vertices_in c b) k ≡ Some v → (v.inlet ≡ true → has_word s.world i v.node ≡ true)
      → inlets_have_words (block_of_act g s i b) s i (class_at (parts_of_act g (singles g) s i b) k) ≡ true
  words-of k v h f =
      subst (λ l. inlets_have_words (block_of_act g s i b) s i l ≡ true) (sym (class-is k (slice_get_within (vertices_in c b) k v h)))
      (in-all (λ x. inlet_has s i (vertex_at (block_of_act g s i b) x)) (k ∷ []) one)
    where
      go : (t : Bool) → v.inlet ≡ t → (v.inlet ≡ true → has_word s.world i v.node ≡ true) → inlet_has s i v ≡ true
      go true p e = rw (inlet_has, p) (e p)
      go false p e = rw (inlet_has, p) refl

      one : (x : ℕ) → In x (k ∷ []) → inlet_has s i (vertex_at (block_of_act g s i b) x) ≡ true
      one x (inl q) = subst (λ y. inlet_has s i (vertex_at (block_of_act g s i b) y) ≡ true) q
          (subst (λ u. inlet_has s i u ≡ true) (sym (ap or_vertex h)) (go v.inlet refl f))
      one x (inr q) = absurd q

  -- an inlet that may run has a word
  pub may_run-word : (k : ℕ) (v : Vertex) → slice_get (vertices_in c b) k ≡ Some v → v.inlet ≡ true
      → inlets_have_words (block_of_act g s i b) s i (class_at (parts_of_act g (singles g) s i b) k) ≡ true → has_word s.world i v.node ≡ true
  may_run-word k v h p w =
      let q = subst (λ l. inlets_have_words (block_of_act g s i b) s i l ≡ true) (class-is k (slice_get_within (vertices_in c b) k v h)) w in
      let r = all-in (λ x. inlet_has s i (vertex_at (block_of_act g s i b) x))
      (k ∷ []) q k (inl refl) in
      let t = subst (λ (u : Vertex). inlet_has s i u ≡ true) (ap or_vertex h) r in
      rw (inlet_has, p) at t

  -- those before a place have run where each place with an edge to it has
  pub before-ran : (k : ℕ) → ((d : ℕ) → In (d, k) (edges_among c (vertices_in c b)) → has_run s i b d ≡ true)
      → those_before_ran (block_of_act g s i b) (parts_of_act g (singles g) s i b) s i b k ≡ true
  before-ran k f = in-all (λ d. before_has s i b (block_of_act g s i b).edges (parts_of_act g (singles g) s i b) k d)
      (below (length (parts_of_act g (singles g) s i b)))
      (λ d h. go d (directly_before (block_of_act g s i b).edges (parts_of_act g (singles g) s i b) d k) refl)
    where
      go : (d : ℕ) (t : Bool) → directly_before (block_of_act g s i b).edges (parts_of_act g (singles g) s i b) d k ≡ t
          → before_has s i b (block_of_act g s i b).edges (parts_of_act g (singles g) s i b) k d ≡ true
      go d true p = rw (before_has, p) (f d (before-edge (length (vertices_in c b)) (edges_among c (vertices_in c b)) d k (edge-places c b)
          (subst (λ ps. directly_before (edges_among c (vertices_in c b)) ps d k ≡ true) parts-are p)))
      go d false p = rw (before_has, p) refl

  -- and the other way round, where the places differ
  pub ran-before : (k d : ℕ) → those_before_ran (block_of_act g s i b) (parts_of_act g (singles g) s i b) s i b k ≡ true
      → In (d, k) (edges_among c (vertices_in c b)) → (d ≡ k → ⊥) → has_run s i b d ≡ true
  ran-before k d h e n =
      let l : d < length (vertices_in c b) = (edge-places c b (d, k) e).0 in
      let r = all-in (λ x. before_has s i b (block_of_act g s i b).edges (parts_of_act g (singles g) s i b) k x)
      (below (length (parts_of_act g (singles g) s i b))) h d
      (below-in d (length (parts_of_act g (singles g) s i b)) (subst (λ m. d < m) (sym classes) l)) in
      let p : directly_before (block_of_act g s i b).edges (parts_of_act g (singles g) s i b) d k ≡ true =
      subst (λ ps. directly_before (edges_among c (vertices_in c b)) ps d k ≡ true) (sym parts-are)
      (edge-before (length (vertices_in c b)) (edges_among c (vertices_in c b)) d k (edge-places c b) e n) in
      rw (before_has, p) at r

  -- ---- what runs do

  -- a vertex that is no inlet fires
  pub run-firer : (k x : ℕ) → Firer c b k x
      → class_fired g (singles g) s i b k ≡ record { world = (fired g s.world i x).world; sends = (fired g s.world i x).sends }
  run-firer k x f =
      subst (λ l. fire_each g (block_of_act g s i b) i (record { world = s.world; sends = [] }) (firing_order (block_of_act g s i b).edges l)
      ≡ record { world = (fired g s.world i x).world; sends = (fired g s.world i x).sends })
      (sym (class-is k (slice_get_within (vertices_in c b) k f.vertex f.stands)))
      (subst (λ l. fire_each g (block_of_act g s i b) i (record { world = s.world; sends = [] }) l
      ≡ record { world = (fired g s.world i x).world; sends = (fired g s.world i x).sends })
      (sym (firing-single (block_of_act g s i b).edges k)) one)
    where
      then : then_one g i (record { world = s.world; sends = [] }) f.vertex
          ≡ record { world = (fired g s.world i x).world; sends = (fired g s.world i x).sends }
      then = rw (then_one, f.no_inlet) (ap (λ y. record { world = (fired g s.world i y).world; sends = (fired g s.world i y).sends }) f.of_node)

      one : fire_each g (block_of_act g s i b) i (record { world = s.world; sends = [] }) (k ∷ [])
          ≡ record { world = (fired g s.world i x).world; sends = (fired g s.world i x).sends }
      one = ap (λ o. then_one g i (record { world = s.world; sends = [] }) (or_vertex o)) f.stands ∙ then

  -- an inlet does nothing
  pub run-inlet : (k x : ℕ) → InletAt c b k x → class_fired g (singles g) s i b k ≡ record { world = s.world; sends = [] }
  run-inlet k x f =
      subst (λ l. fire_each g (block_of_act g s i b) i (record { world = s.world; sends = [] }) (firing_order (block_of_act g s i b).edges l)
      ≡ record { world = s.world; sends = [] })
      (sym (class-is k (slice_get_within (vertices_in c b) k f.vertex f.stands)))
      (subst (λ l. fire_each g (block_of_act g s i b) i (record { world = s.world; sends = [] }) l ≡ record { world = s.world; sends = [] })
      (sym (firing-single (block_of_act g s i b).edges k)) one)
    where
      then : then_one g i (record { world = s.world; sends = [] }) f.vertex ≡ record { world = s.world; sends = [] }
      then = rw (then_one, f.inlet) refl

      one : fire_each g (block_of_act g s i b) i (record { world = s.world; sends = [] }) (k ∷ []) ≡ record { world = s.world; sends = [] }
      one = ap (λ o. then_one g i (record { world = s.world; sends = [] }) (or_vertex o)) f.stands ∙ then

  -- ---- which may run

  -- an inlet of an entered block with a word may run once
  pub may_run-inlet : (k x : ℕ) → InletAt c b k x → has_run s i b k ≡ false → has_entered s.world i b ≡ true → has_word s.world i x ≡ true
      → may_run g (singles g) s i b k ≡ true
  may_run-inlet k x f r e w = parts-may_run g (singles g) s i b k (record {
    act = there.act;
    class = subst (λ m. k < m) (sym classes) (slice_get_within (vertices_in c b) k f.vertex f.stands);
    not_ran = r;
    entered = e;
    words = words-of k f.vertex f.stands (λ h. subst (λ y. has_word s.world i y ≡ true) (sym f.of_node) w);
    before = before-ran k (λ d h. absurd (no-edge c b d k f.vertex f.stands f.inlet h));
  })

  -- a vertex that fires may run once, where the givers of its operands have run
  pub may_run-firer : (k x : ℕ) → Firer c b k x → has_run s i b k ≡ false → has_entered s.world i b ≡ true
      → ((d a : ℕ) → Giver c b d a → In a (operands_of c (kind_at c x)) → has_run s i b d ≡ true) → may_run g (singles g) s i b k ≡ true
  may_run-firer k x f r e h = parts-may_run g (singles g) s i b k (record {
    act = there.act;
    class = subst (λ m. k < m) (sym classes) (slice_get_within (vertices_in c b) k f.vertex f.stands);
    not_ran = r;
    entered = e;
    words = words-of k f.vertex f.stands (λ p. absurd (true≢false (sym p ∙ f.no_inlet)));
    before = before-ran k (λ d m. let o = edge-operand c b d k x f m in h d o.0 o.2 o.1);
  })
