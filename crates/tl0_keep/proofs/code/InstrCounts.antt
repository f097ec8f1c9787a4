-- How many instructions the thread code of an accepted graph has at most.
use Rattle.std.proofs.Common.{◌≡◌, ℕ, ◌+◌, ◌*◌, ◌<◌, ◌≤◌, Bool, true, false, ◌==◌, List, [], ◌∷◌, ◌++◌, map, flat_map, length, refl, ap, arith}
use Rattle.std.proofs.Common.{inl, inr}
use Rattle.std.specs.List.{sum_by}
use Rattle.std.proofs.lemmas.List.{length-append, length-map}
use Rattle.std.proofs.lemmas.List.Sums.{sum_by-cons, sum_by-append, length-filter, count_by-le-length}
use Rattle.std.proofs.Math.Nat.{suc-mul, mul-add}
use Rattle.tam_word.specs.Lists.{below}
use Rattle.tam_word.proofs.Sifted.{first_of-one}
use Rattle.tam_word.proofs.Tests.{below-test, test-below}
use Rattle.tam_word.proofs.Members.{In, in-flat_map, in-below, distinct-below}
use Rattle.tam_graph.specs.declared.kind.Kind.{Kind}
use Rattle.tam_graph.specs.declared.kind.Kind.TheVariants.{Const, Op as Operator, Seq, Call, Arg, Give, Alloc, Fetch, Store, Cond, Switch as Choose, Leave}
use Rattle.tam_graph.specs.Graphs.{Code, Graph, code_of, kind_at, block_at, node_numbers, nodes_in, node_where, node_in, owner_of, blocks_of, is_merge}
use Rattle.tam_graph.specs.Graphs.{is_enter}
use Rattle.tam_graph.specs.Written.{IsWritten, number_of_vertices}
use Rattle.tam_graph.specs.Accepted.{IsAccepted}
use Rattle.tam_graph.proofs.BranchBlocks.{has-body}
use Rattle.tam_graph.proofs.FewPlaces.{few-distinct}
use Rattle.tam_graph.proofs.FewNodes.{length-below}
use Rattle.tam_split.specs.declared.vertex.Vertex.{Vertex}
use Rattle.tam_split.specs.Blocks.{block_graph, vertex_at}
use Rattle.tam_split.specs.Partitions.{Parts, class_at}
use Rattle.tam_split.specs.GraphPartitions.{firing_order}
use Rattle.tam_split.proofs.Classes.{partition-parts, in-class_at}
use Rattle.tam_split.proofs.Vertices.{number_of_vertices-length}
use Rattle.tl0_code.specs.declared.instr.Instr.{Instr}
use Rattle.tl0_code.specs.declared.instr.Instr.TheVariants.{Fork}
use Rattle.tl0_code.specs.ThreadCode.{Thread, instr_count}
use Rattle.tl0_keep.specs.Compiled.{parts_at, compiled_code, block_threads, class_thread, connectors_at, block_entry, entry_classes, forks_to, waits_for}
use Rattle.tl0_keep.specs.Compiled.{vertex_instrs, instrs_of, thread_of_class, once, yes_of, no_of}
use Rattle.tl0_keep.proofs.code.ThreadKinds.{AreParts, merges_of}
use Rattle.tl0_keep.proofs.code.DistinctLists.{distinct-flat}
use Rattle.tl0_keep.proofs.code.CleanCodes.{AreFew}
use Rattle.tl0_keep.proofs.code.Forks.{order-in, order-distinct, owners-few}
use Rattle.tl0_keep.proofs.code.ClassInstrs.{gifts_to, leave-gifts}
use Rattle.tl0_keep.proofs.code.Standing.{classes_in, classes-small, sum-nodes, branches_at}
use Rattle.tl0_keep.proofs.code.Sums.{sum-among, sum-least, sum-flat, length-flat_sum}
use Rattle.tl0_keep.proofs.code.ClassEdges.{behind, edges-few, takes-few}

-- ---- lists

-- gifts are two instructions each
length-gifts : (c : Code) (ps : List Parts) (a : ℕ) (ms : List ℕ) → length (gifts_to c ps a ms) ≡ 2 * length ms
length-gifts c ps a [] = refl
length-gifts c ps a (m ∷ ms) = let i = length-gifts c ps a ms in omega (arith, i)

-- an `out` has one merge at most
merges-few : (c : Code) (k : ℕ) (owners : List ℕ) → length owners < 2 → length (merges_of c k owners) ≤ 1
merges-few c k [] l = omega arith
merges-few c k (d ∷ []) l =
    let f = first_of-one (λ x. is_merge d k (kind_at c x)) (node_numbers c) in
    let a = length-append (node_where c (is_merge d k)) [] in
    omega (arith, f, a)
merges-few c k (d ∷ e ∷ ds) l = absurd (omega arith)

-- what is at most m for each of some is at most m times as many
sum-most : {X : Type 0} (f : X → ℕ) (m : ℕ) (xs : List X) → ((x : X) → In x xs → f x ≤ m) → sum_by f xs ≤ length xs * m
sum-most f m [] h = omega arith
sum-most f m (x ∷ xs) h =
    let i = sum-most f m xs (λ y k. h y (inr k)) in
    let o = h x (inl refl) in
    let a = sum_by-cons f x xs in
    let e = suc-mul (length xs) m in
    omega (arith, i, o, a, e)

-- the sum over a map
sum-map : {X Y : Type 0} (f : Y → ℕ) (h : X → Y) (xs : List X) → sum_by f (map h xs) ≡ sum_by (λ x. f (h x)) xs
sum-map f h [] = refl
sum-map f h (x ∷ xs) =
    let i = sum-map f h xs in
    let a = sum_by-cons f (h x) (map h xs) in
    let b = sum_by-cons (λ y. f (h y)) x xs in
    omega (arith, i, a, b)

module _ (g : Graph) (accepted : IsAccepted g) (n : ℕ) (there : n < length g.codes) (ps : List Parts) (parts : AreParts (code_of g n) ps)
    (few : AreFew (code_of g n) ps) where
  -- the code
  abbrev its-code : Code
  its-code = code_of g n

  -- its code is written
  abbrev its-text : IsWritten (length g.codes) (code_of g n)
  its-text = accepted.written n (below-test n (length g.codes) there)

  -- a node has two instructions at most
  node-few : (x : ℕ) (k : Kind) → length (instrs_of g its-code ps x k) ≤ 2
  node-few x (Const w) = omega arith
  node-few x (Operator o a b) = omega arith
  node-few x (Seq a b) = omega arith
  node-few x (Call d) = omega arith
  node-few x (Arg f k a) = omega arith
  node-few x (Give k a) = omega arith
  node-few x (Alloc a) = omega arith
  node-few x (Fetch a i) = omega arith
  node-few x (Store a i v) = omega arith
  node-few x (Cond p y q) = omega arith
  node-few x (Choose d k a) = omega arith
  node-few x (Leave k a) =
      let owners = owner_of its-code (block_at its-code x) in
      let e = ap (λ (is : List Instr). length is) (leave-gifts its-code ps k a owners) in
      let l = length-gifts its-code ps a (merges_of its-code k owners) in
      let m = merges-few its-code k owners (owners-few its-code (block_at its-code x)) in
      omega (arith, e, l, m)
  node-few x k = omega arith

  -- and so has a vertex
  vertex-few : (v : Vertex) → length (vertex_instrs g its-code ps v) ≤ 2
  vertex-few v = go v.inlet
    where
      go : (b : Bool) → length {A = Instr} (elim b [ true ↦ [] | false ↦ instrs_of g its-code ps v.node (kind_at its-code v.node) ]) ≤ 2
      go true = omega arith
      go false = node-few v.node (kind_at its-code v.node)

  -- the entry classes of a block
  entry-few : (b : ℕ) → length (block_entry its-code ps b) ≤ classes_in g accepted n there ps few b
  entry-few b =
      let m = length-map (entry_classes (block_graph its-code b) (parts_at ps b)) (λ k. Fork (thread_of_class ps b k)) in
      let f = length-filter (λ k. waits_for (block_graph its-code b) (parts_at ps b) k == 0) (below (length (parts_at ps b))) in
      let c = count_by-le-length (λ k. waits_for (block_graph its-code b) (parts_at ps b) k == 0) (below (length (parts_at ps b))) in
      let l = length-below (length (parts_at ps b)) in
      omega (arith, m, f, c, l)

  -- the thread of a class
  class-few : (b k : ℕ) → b < length its-code.owners
      → length (class_thread g its-code ps b (block_graph its-code b) (parts_at ps b) k).instrs
      ≤ 2 * length (class_at (parts_at ps b) k) + length (behind its-code b (parts_at ps b) k)
  class-few b k l =
      let order = firing_order (block_graph its-code b).edges (class_at (parts_at ps b) k) in
      let vertex = λ (x : ℕ). vertex_instrs g its-code ps (vertex_at (block_graph its-code b) x) in
      let a = length-append (flat_map vertex order) (forks_to ps b (behind its-code b (parts_at ps b) k)) in
      let s = length-flat_sum vertex order in
      let t = sum-among (λ x. length (vertex x)) order (class_at (parts_at ps b) k)
      (order-distinct (block_graph its-code b).edges (class_at (parts_at ps b) k) (parts.once b k))
      (λ x m. order-in (block_graph its-code b).edges (class_at (parts_at ps b) k) x m) in
      let u = sum-most (λ x. length (vertex x)) 2 (class_at (parts_at ps b) k) (λ x m. vertex-few (vertex_at (block_graph its-code b) x)) in
      let m = length-map (behind its-code b (parts_at ps b) k) (λ d. Fork (thread_of_class ps b d)) in
      omega (arith, a, s, t, u, m)

  -- the places of all classes of a block are no more than its vertices
  places-few : (b : ℕ) → b < length its-code.owners → sum_by (λ k. length (class_at (parts_at ps b) k)) (below (length (parts_at ps b))) ≤ length
      (block_graph its-code b).vertices
  places-few b l =
      let p = partition-parts (block_graph its-code b) (parts_at ps b) (parts.parts b l) in
      let s = length-flat_sum (class_at (parts_at ps b)) (below (length (parts_at ps b))) in
      let d = few-distinct (length (block_graph its-code b).vertices) (flat_map (class_at (parts_at ps b)) (below (length (parts_at ps b))))
      (distinct-flat (class_at (parts_at ps b)) (below (length (parts_at ps b))) (distinct-below (length (parts_at ps b))) (λ k m. parts.once b k)
      (λ i j z a e q r. p.once z i j (in-class_at (parts_at ps b) i z q) (in-class_at (parts_at ps b) j z r)))
      (λ z m. let r = in-flat_map (class_at (parts_at ps b)) z (below (length (parts_at ps b))) m in p.inside r.0 z (in-class_at (parts_at ps b) r.0 z r.2)) in
      omega (arith, s, d)

  -- the threads of a block's classes
  block-few : (b : ℕ) → b < length its-code.owners → sum_by (λ (t : Thread). length t.instrs) (block_threads g its-code ps b)
      ≤ 5 * number_of_vertices its-code b
  block-few b l =
      let thread = class_thread g its-code ps b (block_graph its-code b) (parts_at ps b) in
      let classes = below (length (parts_at ps b)) in
      let m = sum-map (λ (t : Thread). length t.instrs) thread classes in
      let e = sum-least (λ k. length (thread k).instrs) (λ k. 2 * length (class_at (parts_at ps b) k) + length (behind its-code b (parts_at ps b) k)) classes
      (λ k i. class-few b k l) in
      let s = split (λ k. length (class_at (parts_at ps b) k)) (λ k. length (behind its-code b (parts_at ps b) k)) classes in
      let p = places-few b l in
      let f = edges-few its-code b (parts_at ps b) in
      let t = takes-few its-code b (parts_at ps b) in
      let v = number_of_vertices-length its-code b in
      omega (arith, m, e, s, p, f, t, v)
    where
      split : (f h : ℕ → ℕ) (xs : List ℕ) → sum_by (λ k. 2 * f k + h k) xs ≡ 2 * sum_by f xs + sum_by h xs
      split f h [] = omega arith
      split f h (x ∷ xs) =
          let i = split f h xs in
          let a = sum_by-cons (λ k. 2 * f k + h k) x xs in
          let b = sum_by-cons f x xs in
          let c = sum_by-cons h x xs in
          omega (arith, i, a, b, c)

  -- the connectors of a node
  connectors-few : (x : ℕ) (k : Kind) → sum_by (λ (t : Thread). length t.instrs) (connectors_at its-code ps x k) ≤ 4 + sum_by
      (classes_in g accepted n there ps few) (branches_at k)
  connectors-few x (Cond p y q) =
      let a = entry-few y in
      let b = entry-few q in
      let s = sum_by-cons (classes_in g accepted n there ps few) y (q ∷ []) in
      let t = sum_by-cons (classes_in g accepted n there ps few) q [] in
      omega (arith, a, b, s, t)
  connectors-few x (Choose d k a) =
      let s = length-gifts its-code ps a (node_in its-code (yes_of (kind_at its-code d)) (is_enter k)) in
      let t = length-gifts its-code ps a (node_in its-code (no_of (kind_at its-code d)) (is_enter k)) in
      let u = first_of-one (λ y. is_enter k (kind_at its-code y)) (nodes_in its-code (yes_of (kind_at its-code d))) in
      let v = first_of-one (λ y. is_enter k (kind_at its-code y)) (nodes_in its-code (no_of (kind_at its-code d))) in
      omega (arith, s, t, u, v)
  connectors-few x k = omega arith

  -- the whole code
  pub instrs-few : instr_count (compiled_code g (its-code, ps)) ≤ 262144
  instrs-few =
      let size = λ (t : Thread). length t.instrs in
      let blocks = flat_map (block_threads g its-code ps) (blocks_of its-code) in
      let connectors = flat_map (λ x. connectors_at its-code ps x (kind_at its-code x)) (node_numbers its-code) in
      let a = sum_by-cons size (once (block_entry its-code ps 0)) (blocks ++ connectors) in
      let b = sum_by-append size blocks connectors in
      let c = sum-flat size (block_threads g its-code ps) (blocks_of its-code) in
      let d = sum-flat size (λ x. connectors_at its-code ps x (kind_at its-code x)) (node_numbers its-code) in
      let e = sum-least (λ b. sum_by size (block_threads g its-code ps b)) (λ b. 5 * number_of_vertices its-code b) (blocks_of its-code)
      (λ b m. block-few b (in-below b (length its-code.owners) m)) in
      let f = times (number_of_vertices its-code) 5 (blocks_of its-code) in
      let h = test-below _ 1025 its-text.small in
      let k = sum-nodes g accepted n there ps few (λ x. sum_by size (connectors_at its-code ps x (kind_at its-code x))) 4
      (λ x m. connectors-few x (kind_at its-code x)) in
      let l = entry-few 0 in
      let m = classes-small g accepted n there ps few 0 (has-body (length g.codes) its-code its-text) in
      omega (arith, a, b, c, d, e, f, h, k, l, m)
    where
      times : (f : ℕ → ℕ) (m : ℕ) (xs : List ℕ) → sum_by (λ x. m * f x) xs ≡ m * sum_by f xs
      times f m [] = omega arith
      times f m (x ∷ xs) =
          let i = times f m xs in
          let a = sum_by-cons (λ y. m * f y) x xs in
          let b = sum_by-cons f x xs in
          let e : m * (f x + sum_by f xs) ≡ m * f x + m * sum_by f xs = mul-add m (f x) (sum_by f xs) in
          let k : m * sum_by f (x ∷ xs) ≡ m * (f x + sum_by f xs) = ap (λ j. m * j) b in
          omega (arith, i, a, e, k)
