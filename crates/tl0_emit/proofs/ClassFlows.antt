-- What a class waits for and what its thread forks, by the tables of its block.
use Rattle.std.proofs.Common.{◌≡◌, ℕ, ◌+◌, ◌<◌, ◌≤◌, Bool, ◌==◌, List, [], ◌∷◌, map, filter, count_by, length, slice_index, refl, sym, ap, ap₂, subst, ◌∙◌}
use Rattle.std.proofs.Common.{if◌then◌else◌, arith, inl, inr, ◌++◌, flat_map, drop, get_or, add-one}
use Rattle.std.proofs.lemmas.List.{map-append, append_assoc, append-nil, drop_more}
use Rattle.std.proofs.lemmas.Grind.{flat_map-append}
use Rattle.std.proofs.lemmas.List.Sums.{sum_by-drop_more}
use Rattle.std.proofs.lemmas.Option.{get_or_from_slice_get, slice_get_cases}
use Rattle.tam_word.specs.Lists.{below, has}
use Rattle.tam_word.proofs.Members.{In, in-below, in-filter}
use Rattle.tam_graph.specs.Graphs.{Code, block_at, node_numbers}
use Rattle.tam_split.specs.declared.vertex.Vertex.{Vertex}
use Rattle.tam_split.specs.Blocks.{BlockGraph, block_graph, vertex_at, or_vertex, places}
use Rattle.tam_split.proofs.BlockVertices.{at-shape, place-at}
use Rattle.tam_split.specs.Partitions.{Parts, class_at, directly_before}
use Rattle.tam_split.specs.GraphPartitions.{firing_order}
use Rattle.tam_reach.proofs.Spread.{length-map-below}
use Rattle.tam_order.specs.ClassOrders.{behind_of, preceding_of}
use Rattle.tam_order.proofs.ClassNumbers.{length-numbers, numbers-at}
use Rattle.tam_order.proofs.Directly.{behind-listed, before-counted}
use Rattle.tl0_code.specs.declared.instr.Instr.{Instr}
use Rattle.tl0_keep.specs.Compiled.{waits_for, inlets_in, entry_classes, entry_count, forks_to, parts_at, vertex_instrs, class_thread}
use Rattle.tl0_emit.specs.CodeParts.{CodeParts, its_code}
use Rattle.tl0_emit.specs.BlockTables.{first_thread}
use Rattle.tl0_emit.specs.BlockFlows.{waiting_for_none, forks_from}

-- tests that agree on the members leave the same
filter-members : (p q : ℕ → Bool) (xs : List ℕ) → ((x : ℕ) → In x xs → p x ≡ q x) → filter p xs ≡ filter q xs
filter-members p q [] h = refl
filter-members p q (x ∷ xs) h =
    ap₂ (λ (t : Bool) (ys : List ℕ). if t then x ∷ ys else ys) (h x (inl refl)) (filter-members p q xs (λ y i. h y (inr i)))

module _ (b : BlockGraph) (ps : Parts) where
  -- a class waits for its inlets and the classes in whose sets it is
  pub waits-counted : (behind : List (List ℕ)) (k : ℕ) → behind ≡ map (behind_of b.edges ps) (below (length ps)) → k < 512
      → inlets_in b (class_at ps k) + count_by (λ set. has set k) behind ≡ waits_for b ps k
  waits-counted behind k e l =
      ap (λ n. inlets_in b (class_at ps k) + n) (ap (count_by (λ set. has set k)) e ∙ before-counted b.edges ps (length ps) k l)

  -- the entry classes are those that wait for nothing
  pub waiting-entry : (waits : List ℕ) → waits ≡ map (waits_for b ps) (below (length ps)) → waiting_for_none waits ≡ entry_classes b ps
  waiting-entry waits e =
      ap waiting_for_none e
      ∙ (ap (λ n. filter (λ k. slice_index (map (waits_for b ps) (below (length ps))) k == 0) (below n)) (length-numbers (waits_for b ps) (length ps))
      ∙ filter-members (λ k. slice_index (map (waits_for b ps) (below (length ps))) k == 0) (λ k. waits_for b ps k == 0) (below (length ps))
      (λ k m. ap (λ w. w == 0) (numbers-at (waits_for b ps) (length ps) k (in-below k (length ps) m))))

-- one number more
pub map-more : {X : Type 0} (f : ℕ → X) (n : ℕ) → map f (below (n + 1)) ≡ map f (below n) ++ f n ∷ []
map-more f n = ap (λ m. map f (below m)) (add-one n) ∙ map-append f (below n) (n ∷ [])

-- lists together, one number more
pub flat-below_more : {X : Type 0} (f : ℕ → List X) (n : ℕ) → flat_map f (below (n + 1)) ≡ flat_map f (below n) ++ f n
flat-below_more f n =
    ap (λ m. flat_map f (below m)) (add-one n) ∙ (flat_map-append f (below n) (n ∷ []) ∙ ap (λ l. flat_map f (below n) ++ l) (append-nil (f n)))

-- 1 for what passes
abbrev pub bit : Bool → ℕ
bit t = if t then 1 else 0

-- one place more is counted
pub count-more : (p : ℕ → Bool) (xs : List ℕ) (i count : ℕ) → i < length xs
    → (count + bit (p (get_or xs i 0))) + count_by p (drop (i + 1) xs) ≡ count + count_by p (drop i xs)
count-more p xs i count l = let m = sum_by-drop_more (λ x. bit (p x)) xs i 0 l in omega (arith, m)

-- the vertex at a place of a block, where it was read
pub vertex-got : (b : BlockGraph) (vs : List Vertex) → vs ≡ b.vertices → (x : ℕ) (blank : Vertex) → x < length b.vertices → get_or vs x blank ≡ vertex_at b x
vertex-got b vs same x blank l = ap (λ us. get_or us x blank) same ∙ (elim (slice_get_cases b.vertices x).1 [
  | inl a ↦ get_or_from_slice_get b.vertices x a.0 blank a.2 ∙ sym (ap or_vertex a.2)
  | inr n ↦ absurd (let h = n.0 in omega (arith, h, l))
])

-- a vertex of a block is of a node that is there
pub vertex-there : (c : Code) (b x : ℕ) → x < length (block_graph c b).vertices → (vertex_at (block_graph c b) x).node < length c.nodes
vertex-there c b x l =
    let s = at-shape c b x (vertex_at (block_graph c b) x) (place-at c b x l) in
    in-below (vertex_at (block_graph c b) x).node (length c.nodes)
    (in-filter (λ y. block_at c y == b) (vertex_at (block_graph c b) x).node (node_numbers c) s.1).0

-- one place more in lists together
pub flat-more : {X : Type 0} (f : ℕ → List X) (old : List X) (xs : List ℕ) (i : ℕ) → i < length xs
    → (old ++ f (get_or xs i 0)) ++ flat_map f (drop (i + 1) xs) ≡ old ++ flat_map f (drop i xs)
flat-more f old xs i l =
    append_assoc old (f (get_or xs i 0)) (flat_map f (drop (i + 1) xs)) ∙ ap (λ ys. old ++ flat_map f ys) (sym (drop_more xs i 0 l))

-- a vertex that was read is of a node that is there
pub vertex-low : (c : Code) (b x : ℕ) (v : Vertex) → x < length (block_graph c b).vertices → v ≡ vertex_at (block_graph c b) x → v.node < length c.nodes
vertex-low c b x v l e = subst (λ (w : Vertex). w.node < length c.nodes) (sym e) (vertex-there c b x l)

-- for each place of a block the places with an edge to it, by how many rows there are
pub preceding-same : (b : BlockGraph) (rows : List (List ℕ)) → rows ≡ map (preceding_of b.edges) (places b)
    → rows ≡ map (preceding_of b.edges) (below (length rows))
preceding-same b rows e =
    let n : length rows ≡ length b.vertices = ap (λ rs. length rs) e ∙ length-map-below (preceding_of b.edges) (length b.vertices) in
    e ∙ ap (λ m. map (preceding_of b.edges) (below m)) (sym n)

-- ---- the thread of a class

-- what the thread of a class is made of: the order of its vertices, the set of the classes behind it, the block's first thread, its count and instructions
pub record ThreadParts : Type 0 where
  pub order : List ℕ
  pub row : List ℕ
  pub first : ℕ
  pub count : ℕ
  pub instrs : List Instr

-- the forks by a set
abbrev pub forks_made : List Parts → ℕ → ThreadParts → List Instr
forks_made ps b m = forks_from m.first (filter (has m.row) (below (length (parts_at ps b))))

-- they are those of class k of block b
pub record IsMade (t : CodeParts) (b k : ℕ) (m : ThreadParts) : Type 0 where
  pub order_is : m.order ≡ firing_order (block_graph (its_code t) b).edges (class_at (parts_at t.parts b) k)
  pub row_is : m.row ≡ behind_of (block_graph (its_code t) b).edges (parts_at t.parts b) k
  pub few : length (parts_at t.parts b) ≤ 512
  pub first_is : m.first ≡ first_thread t.parts b
  pub count_is : m.count ≡ entry_count (waits_for (block_graph (its_code t) b) (parts_at t.parts b) k)
  pub instrs_are : m.instrs ≡ flat_map (λ x. vertex_instrs t.graph (its_code t) t.parts (vertex_at (block_graph (its_code t) b) x)) m.order
      ++ forks_made t.parts b m

-- the forks are to the classes directly behind it
made-forks : (t : CodeParts) (b k : ℕ) (m : ThreadParts) → IsMade t b k m
    → forks_made t.parts b m
    ≡ forks_to t.parts b (filter (λ d. directly_before (block_graph (its_code t) b).edges (parts_at t.parts b) k d) (below (length (parts_at t.parts b))))
made-forks t b k m h =
    ap (λ f. forks_from f (filter (has m.row) (below (length (parts_at t.parts b))))) h.first_is
    ∙ (ap (λ r. forks_from (first_thread t.parts b) (filter (has r) (below (length (parts_at t.parts b))))) h.row_is
    ∙ ap (forks_from (first_thread t.parts b)) (behind-listed (block_graph (its_code t) b).edges (parts_at t.parts b) (length (parts_at t.parts b)) k h.few))

-- and the whole is the thread of the class
pub made-thread : (t : CodeParts) (b k : ℕ) (m : ThreadParts) → IsMade t b k m
    → record { count = m.count; instrs = m.instrs }
    ≡ class_thread t.graph (its_code t) t.parts b (block_graph (its_code t) b) (parts_at t.parts b) k
made-thread t b k m h =
    ap₂ (λ (w : ℕ) (is : List Instr). record { count = w; instrs = is }) h.count_is
    (h.instrs_are
    ∙ ap₂ (λ (o : List ℕ) (fs : List Instr). flat_map (λ x. vertex_instrs t.graph (its_code t) t.parts (vertex_at (block_graph (its_code t) b) x)) o ++ fs)
    h.order_is (made-forks t b k m h))
