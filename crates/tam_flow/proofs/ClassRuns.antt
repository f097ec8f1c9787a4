-- The run of a class that may run leaves a world that has its reasons, and sends messages that have theirs.
use Rattle.std.proofs.Common.{◌≡◌, ℕ, zero, suc, ◌<◌, Bool, true, false, ◌==◌, not, List, [], ◌∷◌, filter, Option, Some, None, length, slice_get, nat_lt, refl}
use Rattle.std.proofs.Common.{sym, subst}
use Rattle.std.specs.List.{AllByRecursion}
use Rattle.tam_word.specs.Lists.{all_of, first_of, below}
use Rattle.tam_graph.specs.Graphs.{Graph, Code, code_of, kind_at, block_at, blocks_of, nodes_in, is_split}
use Rattle.tam_graph.specs.Edges.{Edges}
use Rattle.tam_graph.specs.Accepted.{IsAccepted}
use Rattle.tam_split.specs.declared.vertex.Vertex.{Vertex}
use Rattle.tam_split.specs.Blocks.{BlockGraph, block_graph, vertices_of, vertex_at, or_vertex}
use Rattle.tam_split.specs.Partitions.{Parts, class_at, or_empty}
use Rattle.tam_split.specs.GraphPartitions.{Partitions, parts_of, are_valid, waits_for_none, taken_first, firing_order}
use Rattle.tam_fire.specs.FiringRules.{Entered, Holds}
use Rattle.tam_world.specs.Worlds.{World, Effect, activation_at, its_code, fired}
use Rattle.tam_flow.specs.Told.{path_of}
use Rattle.tam_flow.specs.Journals.{fire_each}
use Rattle.tam_flow.specs.Reached.{IsThere}
use Rattle.tam_word.proofs.Tests.{and-left, and-right, number-eq, test-below}
use Rattle.tam_word.proofs.Each.{all-of_each, each-below, all-more, all-append, all-flat, all-at_place, all-first, all-filter}
use Rattle.tam_flow.proofs.Growing.{grows-on}
use Rattle.tam_flow.proofs.Justified.{IsMessage, messages-later}
use Rattle.tam_flow.proofs.Deliveries.{IsSoundEffect, there-some}
use Rattle.tam_flow.proofs.Nodes.{block-each}
use Rattle.tam_flow.proofs.Firings.{fired-sound}
use Rattle.tam_flow.proofs.ActivationCounts.{then_one}

-- the order in which a class fires has no other places
pub taken-each : (P : ℕ → Type 0) (n : ℕ) (es : Edges) (left : List ℕ) → AllByRecursion P left → AllByRecursion P (taken_first n es left)
taken-each P zero es left h = h
taken-each P (suc n) es left h = go (first_of (waits_for_none es left) left) refl (all-first P (waits_for_none es left) left h) (λ l k. taken-each P n es l k)
  where
    go : (f : List ℕ) → first_of (waits_for_none es left) left ≡ f → AllByRecursion (λ x. P x × (waits_for_none es left x ≡ true)) f
        → ((l : List ℕ) → AllByRecursion P l → AllByRecursion P (taken_first n es l)) → AllByRecursion P (taken_first (suc n) es left)
    go [] e a ih = rw (taken_first, e) h
    go (x ∷ xs) e a ih =
        rw (taken_first, e) (
          a.0.0,
          ih (filter (λ y. not (y == x)) left) (all-more (λ y. P y × (not (y == x) ≡ true)) P (λ y k. k.0) (filter (λ y. not (y == x)) left)
              (all-filter P (λ y. not (y == x)) left h)),
        )

-- what each place of a class has, each has in the order of firing
pub order-each : (P : ℕ → Type 0) (es : Edges) (class : List ℕ) → AllByRecursion P class → AllByRecursion P (firing_order es class)
order-each P es class h = taken-each P (length class) es class h

-- each vertex of a block is of one of its nodes
abbrev pub IsOfBlock : Code → ℕ → Vertex → Type 0
IsOfBlock c b v = (v.node < length c.nodes) × (block_at c v.node ≡ b)

-- each vertex of a block is of a node of it
vertices-each : (c : Code) (b : ℕ) → AllByRecursion (IsOfBlock c b) (block_graph c b).vertices
vertices-each c b =
    all-flat (IsOfBlock c b) (λ x. vertices_of x (kind_at c x)) (nodes_in c b)
    (all-more (λ x. (x < length c.nodes) × ((block_at c x == b) ≡ true)) (λ x. AllByRecursion (IsOfBlock c b) (vertices_of x (kind_at c x))) both
    (nodes_in c b) (block-each c b))
  where
    both : (x : ℕ) → (x < length c.nodes) × ((block_at c x == b) ≡ true) → AllByRecursion (IsOfBlock c b) (vertices_of x (kind_at c x))
    both x h = go (is_split (kind_at c x)) refl
      where
        go : (t : Bool) → is_split (kind_at c x) ≡ t → AllByRecursion (IsOfBlock c b) (vertices_of x (kind_at c x))
        go true e = rw (vertices_of, e) ((h.0, number-eq _ _ h.1), ((h.0, number-eq _ _ h.1), tt))
        go false e = rw (vertices_of, e) ((h.0, number-eq _ _ h.1), tt)

-- at each place of the block
pub vertex-each : (c : Code) (b y : ℕ) → y < length (block_graph c b).vertices → IsOfBlock c b (vertex_at (block_graph c b) y)
vertex-each c b y l = go (slice_get (block_graph c b).vertices y) refl
  where
    go : (o : Option Vertex) → slice_get (block_graph c b).vertices y ≡ o → IsOfBlock c b (or_vertex o)
    go None e = absurd (there-some (block_graph c b).vertices y l e)
    go (Some v) e = all-at_place (IsOfBlock c b) (block_graph c b).vertices y v (vertices-each c b) e

-- what each place of each class has, each place of one class has
class-at : (P : ℕ → Type 0) (parts : Parts) (c : ℕ) → AllByRecursion (AllByRecursion P) parts → AllByRecursion P (class_at parts c)
class-at P parts c h = go (slice_get parts c) refl
  where
    go : (o : Option (List ℕ)) → slice_get parts c ≡ o → AllByRecursion P (or_empty o)
    go None e = tt
    go (Some class) e = all-at_place (AllByRecursion P) parts c class h e

-- the places of a valid partition's classes are the block's
pub class-inside : (g : Graph) (all : Partitions) (n b c : ℕ) → are_valid g all ≡ true → n < length g.codes → b < length (code_of g n).owners
    → AllByRecursion (λ y. y < length (block_graph (code_of g n) b).vertices) (class_at (parts_of all n b) c)
class-inside g all n b c valid there inside =
    let codes = all-of_each _ (below (length g.codes)) valid in
    let here = each-below _ (length g.codes) n codes there in
    let blocks = all-of_each _ (blocks_of (code_of g n)) here in
    let this = each-below _ (length (code_of g n).owners) b blocks inside in
    let classes = all-of_each (all_of (λ y. nat_lt y (length (block_graph (code_of g n) b).vertices))) (parts_of all n b) (and-right _ _ (and-left _ _ this)) in
    class-at (λ y. y < length (block_graph (code_of g n) b).vertices) (parts_of all n b) c
    (all-more _ _ (λ class h. all-more (λ y. nat_lt y (length (block_graph (code_of g n) b).vertices) ≡ true)
    (λ y. y < length (block_graph (code_of g n) b).vertices)
    (λ y k. test-below _ _ k) class (all-of_each (λ y. nat_lt y (length (block_graph (code_of g n) b).vertices)) class h)) (parts_of all n b) classes)

-- ---- the vertices of a class fire

module _ (g : Graph) (args : List ℕ) (accepted : IsAccepted g) (w : World) (i : ℕ) (there : IsThere w i) where
  -- a vertex that is no inlet is of a node that is there, in a block that is entered
  abbrev pub IsReady : BlockGraph → ℕ → Type 0
  IsReady b y =
      (vertex_at b y).inlet ≡ false
      → ((vertex_at b y).node < length (its_code g w i).nodes) × Holds g args (Entered (path_of w i) (block_at (its_code g w i) (vertex_at b y).node))

  -- one more vertex that is ready fires, and the effect keeps its reasons
  pub sound-one : (b : BlockGraph) (e : Effect) (y : ℕ) → IsSoundEffect g args w e → IsReady b y → IsSoundEffect g args w (then_one g b i e y)
  sound-one b e y sound ready = go (vertex_at b y).inlet refl
    where
      go : (t : Bool) → (vertex_at b y).inlet ≡ t → IsSoundEffect g args w (then_one g b i e y)
      go true d = rw (then_one, d) sound
      go false d =
          let code : (activation_at e.world i).code ≡ (activation_at w i).code = sound.grows.code i there in
          let inside = subst (λ n. (vertex_at b y).node < length (code_of g n).nodes) (sym code) (ready d).0 in
          let opened = subst (λ n. Holds g args (Entered (path_of e.world i) (block_at (code_of g n) (vertex_at b y).node))) (sym code)
          (subst (λ q. Holds g args (Entered q (block_at (its_code g w i) (vertex_at b y).node))) (sym (sound.grows.path i there)) (ready d).1) in
          let f = fired-sound (record {
            stands = record { accepted = accepted; sound = sound.world; there = sound.grows.there i there };
            inside = inside;
            open_block = opened;
          }) in
          rw (then_one, d) (record {
            world = f.world;
            grows = grows-on w e.world (fired g e.world i (vertex_at b y).node).world sound.grows f.grows;
            sends = all-append (IsMessage g args (fired g e.world i (vertex_at b y).node).world) e.sends (fired g e.world i (vertex_at b y).node).sends
                (messages-later g args e.world (fired g e.world i (vertex_at b y).node).world f.grows e.sends sound.sends) f.sends;
          })

  -- and so with each of them in turn
  pub sound-each : (b : BlockGraph) (e : Effect) (ys : List ℕ) → IsSoundEffect g args w e → AllByRecursion (IsReady b) ys
      → IsSoundEffect g args w (fire_each g b i e ys)
  sound-each b e [] sound ready = sound
  sound-each b e (y ∷ ys) sound ready = sound-each b (then_one g b i e y) ys (sound-one b e y sound ready.0) ready.1
