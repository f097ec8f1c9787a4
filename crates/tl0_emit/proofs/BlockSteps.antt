-- The tables of a code's blocks, one block after another, and the threads of inlets.
use Rattle.std.proofs.Common.{◌≡◌, ◌≢◌, ◌∙◌, ℕ, ◌+◌, ◌<◌, ◌≤◌, true, false, List, [], ◌∷◌, map, length, take, get_or, slice_get, slice_set, slice_index}
use Rattle.std.proofs.Common.{None, refl, sym, ap, subst, arith, add-one, inl, inr, ◌⊎◌, true≢false}
use Rattle.std.specs.List.{sum_by}
use Rattle.std.proofs.lemmas.Option.{slice_get-get_or, slice_get_read}
use Rattle.std.proofs.lemmas.List.{get_or-set_same, get_or-set_other}
use Rattle.std.proofs.lemmas.List.Sums.{sum_by-cons, sum_by_more, sum_by-take-le}
use Rattle.tam_word.proofs.Tests.{test-below}
use Rattle.tam_word.proofs.Each.{last-or_before}
use Rattle.tam_graph.specs.Graphs.{Code, block_at, blocks_of}
use Rattle.tam_graph.specs.Written.{IsWritten, number_of_vertices}
use Rattle.tam_split.specs.declared.vertex.Vertex.{Vertex}
use Rattle.tam_split.specs.Blocks.{BlockGraph, block_graph, or_vertex, vertex_at}
use Rattle.tam_split.specs.Partitions.{Parts, class_of}
use Rattle.tam_split.specs.PartitionLaws.{IsPartition}
use Rattle.tam_split.specs.GraphPartitions.{or_no_parts}
use Rattle.tam_split.specs.KeptParts.{AreClasses}
use Rattle.tam_split.proofs.Vertices.{number_of_vertices-length}
use Rattle.tam_order.proofs.Rows.{same-or_not}
use Rattle.tl0_keep.specs.Compiled.{parts_at, thread_of_inlet, inlet_place}
use Rattle.tl0_keep.proofs.code.InletVertices.{IsInletOf, inlet-place_is, inlet-node}
use Rattle.tl0_keep.proofs.code.SiftedPlaces.{classes-next}
use Rattle.tl0_emit.specs.BlockTables.{or_no_graph, graph_in, first_thread}
use Rattle.tl0_emit.proofs.NodeSteps.{map-at, map-long}
use Rattle.tl0_emit.proofs.KnownParts.{classes-vertices}

-- ---- first threads

-- no class stands before the first block
pub first-begins : (ps : List Parts) → first_thread ps 0 ≡ 1
first-begins [] = refl
first-begins (p ∷ ps) = refl

-- the next block's first thread stands behind the classes of this one
pub first-next : (ps : List Parts) (b : ℕ) → first_thread ps (b + 1) ≡ first_thread ps b + length (parts_at ps b)
first-next ps b = ap (first_thread ps) (add-one b) ∙ (let s = classes-next ps b in omega (arith, s))

-- ---- graphs of blocks

-- the graph at a place of the list of all
pub graph-in : (c : Code) (gs : List BlockGraph) → gs ≡ map (block_graph c) (blocks_of c) → (b : ℕ) → b < length c.owners → graph_in gs b ≡ block_graph c b
graph-in c gs e b l = ap (λ (hs : List BlockGraph). graph_in hs b) e ∙ ap or_no_graph (map-at (block_graph c) (length c.owners) b l)

-- there is one for each block
pub graphs-long : (c : Code) (gs : List BlockGraph) → gs ≡ map (block_graph c) (blocks_of c) → length gs ≡ length c.owners
graphs-long c gs e = ap (λ (hs : List BlockGraph). length hs) e ∙ map-long (block_graph c) (length c.owners)

-- the graph that is read at a place
pub graph-read : (gs : List BlockGraph) (b : ℕ) → b < length gs → graph_in gs b ≡ get_or gs b (or_no_graph None)
graph-read gs b l = ap or_no_graph (slice_get-get_or gs b (or_no_graph None) l)

-- the partition that is read at a place
pub parts-read : (ps : List Parts) (b : ℕ) (p : Parts) → b < length ps → p ≡ get_or ps b p → parts_at ps b ≡ p
parts-read ps b p l e = ap or_no_parts (slice_get_read ps (length ps) b p refl l e)

-- ---- how many vertices

module _ (gs : List BlockGraph) (p : Parts) (b : ℕ) (there : b < length gs) (classes : AreClasses p) (whole : IsPartition (graph_in gs b) p) where
  -- a thread for each class of a block stays within the vertices of the blocks so far
  pub threads-within : (next count : ℕ) → count ≡ length p → next ≤ 1 + sum_by (λ (d : BlockGraph). length d.vertices) (take b gs)
      → next + count ≤ 1 + sum_by (λ (d : BlockGraph). length d.vertices) (take (b + 1) gs)
  threads-within next count e l =
      let v = classes-vertices p classes (graph_in gs b) whole in
      let r : length (graph_in gs b).vertices ≡ length (get_or gs b (or_no_graph None)).vertices = ap (λ (d : BlockGraph). length d.vertices)
      (graph-read gs b there) in
      let s = sum_by_more (λ (d : BlockGraph). length d.vertices) gs b (or_no_graph None) there in
      omega (arith, v, r, s, e, l)

  -- and so within 1,025
  pub threads-few : (next count : ℕ) → sum_by (λ (d : BlockGraph). length d.vertices) gs ≤ 1024 → count ≡ length p
      → next ≤ 1 + sum_by (λ (d : BlockGraph). length d.vertices) (take b gs) → next + count ≤ 1025
  threads-few next count few e l =
      let t = threads-within next count e l in
      let s = sum_by-take-le (λ (d : BlockGraph). length d.vertices) gs (b + 1) in
      omega (arith, t, s, few)

-- all blocks of a code have at most 1,024 vertices
pub vertices-few : (codes : ℕ) (c : Code) → IsWritten codes c → sum_by (λ (b : BlockGraph). length b.vertices) (map (block_graph c) (blocks_of c)) ≤ 1024
vertices-few codes c written = let s = test-below _ 1025 written.small in let e = go (blocks_of c) in omega (arith, s, e)
  where
    go : (bs : List ℕ) → sum_by (λ (b : BlockGraph). length b.vertices) (map (block_graph c) bs) ≡ sum_by (number_of_vertices c) bs
    go [] = refl
    go (b ∷ bs) =
        let i = go bs in
        let l = number_of_vertices-length c b in
        let s = sum_by-cons (λ (d : BlockGraph). length d.vertices) (block_graph c b) (map (block_graph c) bs) in
        let t = sum_by-cons (number_of_vertices c) b bs in
        omega (arith, i, l, s, t)

-- ---- threads of inlets

module _ (c : Code) (ps : List Parts) (b y x : ℕ) (inlet : IsInletOf c b y x) where
  -- what is written at the node of an inlet is its thread
  pub thread-here : (first number : ℕ) → first ≡ first_thread ps b → number ≡ class_of (parts_at ps b) y → first + number ≡ thread_of_inlet c ps x
  thread-here first number f e =
      let block : thread_of_inlet c ps x ≡ first_thread ps b + class_of (parts_at ps b) (inlet_place (block_graph c b) x) =
      ap (λ d. first_thread ps d + class_of (parts_at ps d) (inlet_place (block_graph c d) x)) (inlet-node c b y x inlet).1 in
      let at : class_of (parts_at ps b) (inlet_place (block_graph c b) x) ≡ class_of (parts_at ps b) y = ap (class_of (parts_at ps b))
      (inlet-place_is c b y x inlet) in
      omega (arith, block, at, f, e)

-- the vertex that is read at a place
pub vertex-read : (vs : List Vertex) (y : ℕ) → y < length vs → or_vertex (slice_get vs y) ≡ get_or vs y (or_vertex None)
vertex-read vs y l = ap or_vertex (slice_get-get_or vs y (or_vertex None) l)

module _ (c : Code) (b y : ℕ) (vs : List Vertex) (are : vs ≡ (block_graph c b).vertices) (there : y < length vs) where
  -- it is the vertex at the place of the block
  is-vertex : vertex_at (block_graph c b) y ≡ get_or vs y (or_vertex None)
  is-vertex = ap (λ ws. or_vertex (slice_get ws y)) (sym are) ∙ vertex-read vs y there

  -- an inlet that is read is one of its node
  pub inlet-read : (get_or vs y (or_vertex None)).inlet ≡ true → IsInletOf c b y (get_or vs y (or_vertex None)).node
  inlet-read h = record {
    inside = let e = ap (λ (ws : List Vertex). length ws) are in omega (arith, there, e);
    inlet = ap (λ (v : Vertex). v.inlet) is-vertex ∙ h;
    of_node = ap (λ (v : Vertex). v.node) is-vertex;
  }

  -- what isn't read as an inlet is none
  pub inlet-none : (x : ℕ) → (get_or vs y (or_vertex None)).inlet ≡ false → IsInletOf c b y x → ⊥
  inlet-none x h i = true≢false (sym i.inlet ∙ (ap (λ (v : Vertex). v.inlet) is-vertex ∙ h))

-- the threads of the inlets at the first places of a block are set
abbrev pub AreSet : Code → List Parts → ℕ → ℕ → List ℕ → Type 0
AreSet c ps b n threads = (y x : ℕ) → y < n → IsInletOf c b y x → slice_index threads x ≡ thread_of_inlet c ps x

module _ (c : Code) (ps : List Parts) (b n : ℕ) (threads : List ℕ) (before : AreSet c ps b n threads) where
  -- one place more has no inlet
  pub set-none : ((x : ℕ) → IsInletOf c b n x → ⊥) → AreSet c ps b (n + 1) threads
  set-none none y x l i = elim (last-or_before y n (omega (arith, l))) [
    | inl less ↦ before y x less i
    | inr same ↦ absurd (none x (subst (λ z. IsInletOf c b z x) same i))
  ]

  module _ (node value : ℕ) (inlet : IsInletOf c b n node) (inside : node < length threads) where
    -- one place more has one
    pub set-more : value ≡ thread_of_inlet c ps node → AreSet c ps b (n + 1) (slice_set threads node value)
    set-more e y x l i = go (same-or_not x node)
      where
        older : x ≢ node → (y < n) ⊎ (y ≡ n) → y < n
        older d (inl less) = less
        older d (inr same) =
            absurd (d (sym i.of_node ∙ (ap (λ z. (vertex_at (block_graph c b) z).node) same ∙ inlet.of_node)))

        go : (x ≡ node) ⊎ (x ≢ node) → slice_index (slice_set threads node value) x ≡ thread_of_inlet c ps x
        go (inl s) =
            ap (λ z. slice_index (slice_set threads node value) z) s
            ∙ (get_or-set_same threads node value 0 inside ∙ (e ∙ ap (thread_of_inlet c ps) (sym s)))
        go (inr d) = get_or-set_other threads node x value 0 d ∙ before y x (older d (last-or_before y n (omega (arith, l)))) i

    -- and nothing of another block changes
    pub set-apart : (x : ℕ) → block_at c x ≢ b → slice_index (slice_set threads node value) x ≡ slice_index threads x
    set-apart x d = get_or-set_other threads node x value 0 (λ s. d (ap (block_at c) s ∙ (inlet-node c b n node inlet).1))
