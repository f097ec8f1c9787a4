-- How much the threads of a code of an accepted graph weigh at most, by any weight of instructions.
use Rattle.std.proofs.Common.{◌≡◌, ℕ, ◌+◌, ◌*◌, ◌<◌, ◌≤◌, ◌==◌, List, [], ◌∷◌, ◌++◌, flat_map, length, arith}
use Rattle.std.specs.List.{sum_by}
use Rattle.std.proofs.lemmas.List.Sums.{sum_by-cons, sum_by-append, length-filter, count_by-le-length}
use Rattle.std.proofs.lemmas.Nat.{mul-le}
use Rattle.std.proofs.Math.Nat.{add-mul}
use Rattle.tam_word.specs.Lists.{below}
use Rattle.tam_word.proofs.Tests.{below-test, test-below}
use Rattle.tam_word.proofs.Members.{In, in-flat_map, in-below, below-in, distinct-below}
use Rattle.tam_graph.specs.declared.kind.Kind.{Kind}
use Rattle.tam_graph.specs.declared.kind.Kind.TheVariants.{Cond, Switch as Choose}
use Rattle.tam_graph.specs.Graphs.{Code, Graph, code_of, kind_at, node_numbers, blocks_of, node_in, is_enter}
use Rattle.tam_graph.specs.Written.{IsWritten, number_of_vertices}
use Rattle.tam_graph.specs.Accepted.{IsAccepted}
use Rattle.tam_graph.proofs.FewNodes.{length-below}
use Rattle.tam_split.specs.Blocks.{block_graph, vertex_at}
use Rattle.tam_split.specs.Partitions.{Parts, class_at}
use Rattle.tam_split.specs.GraphPartitions.{firing_order}
use Rattle.tam_split.proofs.Classes.{partition-parts, in-class_at}
use Rattle.tam_split.proofs.Vertices.{number_of_vertices-length}
use Rattle.tl0_code.specs.declared.instr.Instr.TheVariants.{Skip}
use Rattle.tl0_keep.specs.Compiled.{parts_at, compiled_code, block_threads, class_thread, connectors_at, block_entry, entry_classes, forks_to, waits_for}
use Rattle.tl0_keep.specs.Compiled.{vertex_instrs, once, yes_of, no_of, skipped_at, cond_connector, switch_into}
use Rattle.tl0_keep.proofs.code.ThreadKinds.{AreParts, ThreadKind, then_block, else_block}
use Rattle.tl0_keep.proofs.code.DistinctLists.{distinct-flat}
use Rattle.tl0_keep.proofs.code.CleanCodes.{AreFew}
use Rattle.tl0_keep.proofs.code.Forks.{order-in, order-distinct}
use Rattle.tl0_keep.proofs.code.Standing.{classes_in, branches_at, entered-few, nodes-few}
use Rattle.tl0_keep.proofs.code.Sums.{sum-among, sum-least, sum-flat}
use Rattle.tam_fits.proofs.Lists.{sum-map, sum-limit, sum-plus, sum-times, sum-times_least}
use Rattle.tl0_keep.proofs.code.ClassEdges.{behind, takes, edges-few}
use Rattle.tam_fits.proofs.NodeWeights.{Weighing, weight_of, thread_weight, forks-weight, gifts-weight, vertex-weight}
use Rattle.tam_fits.proofs.Given.{given, given_by, both_of, as_in, given-few}

module _ (w : Weighing) where
  -- the weight of a node's connectors that doesn't turn on other nodes
  abbrev own : Kind → ℕ
  own (Cond p y n) = w.node
  own (Choose d k a) = w.node
  own _ = 0

  -- a node has it, or gets a word as an `in`
  own-few : (k : Kind) → own k + w.gift * as_in k ≤ w.node
  own-few (Cond p y n) = omega arith
  own-few (Choose d k a) = omega arith
  own-few k = let e = w.enters in omega (arith, e)

  module _ (g : Graph) (accepted : IsAccepted g) (n : ℕ) (there : n < length g.codes) (ps : List Parts) (parts : AreParts (code_of g n) ps)
      (few : AreFew (code_of g n) ps) where
    -- the code
    abbrev its-code : Code
    its-code = code_of g n

    -- its code is written
    abbrev its-text : IsWritten (length g.codes) (code_of g n)
    its-text = accepted.written n (below-test n (length g.codes) there)

    -- how many classes a block has
    abbrev classes : ℕ → ℕ
    classes b = classes_in g accepted n there ps few b

    -- the forks of the entry classes of a block
    entry-weight : (b : ℕ) → weight_of w (block_entry its-code ps b) ≤ w.fork * classes b
    entry-weight b =
        let entries = entry_classes (block_graph its-code b) (parts_at ps b) in
        let e = forks-weight w ps b entries in
        let f = length-filter (λ k. waits_for (block_graph its-code b) (parts_at ps b) k == 0) (below (length (parts_at ps b))) in
        let c = count_by-le-length (λ k. waits_for (block_graph its-code b) (parts_at ps b) k == 0) (below (length (parts_at ps b))) in
        let l = length-below (length (parts_at ps b)) in
        let m : w.fork * length entries ≤ w.fork * classes b = mul-le w.fork (length entries) w.fork (classes b) (omega arith) (omega (arith, f, c, l)) in
        omega (arith, e, m)

    -- ---- the threads of classes

    module _ (b : ℕ) (low : b < length its-code.owners) where
      -- the weight of the vertex at a place
      abbrev at-weight : ℕ → ℕ
      at-weight j = weight_of w (vertex_instrs g its-code ps (vertex_at (block_graph its-code b) j))

      -- the order in which a class fires
      abbrev order : ℕ → List ℕ
      order k = firing_order (block_graph its-code b).edges (class_at (parts_at ps b) k)

      -- the forks of a class
      abbrev forks : ℕ → ℕ
      forks k = length (behind its-code b (parts_at ps b) k)

      -- the thread of a class
      class-weight : (k : ℕ) → thread_weight w (class_thread g its-code ps b (block_graph its-code b) (parts_at ps b) k)
          ≤ sum_by at-weight (order k) + (w.fork * forks k + w.head)
      class-weight k =
          let vertex = λ (x : ℕ). vertex_instrs g its-code ps (vertex_at (block_graph its-code b) x) in
          let a = sum_by-append w.weight (flat_map vertex (order k)) (forks_to ps b (behind its-code b (parts_at ps b) k)) in
          let s = sum-flat w.weight vertex (order k) in
          let f = forks-weight w ps b (behind its-code b (parts_at ps b) k) in
          omega (arith, a, s, f)

      -- each place is in one class
      order-sum : sum_by (λ k. sum_by at-weight (order k)) (below (length (parts_at ps b)))
          ≤ sum_by at-weight (below (length (block_graph its-code b).vertices))
      order-sum =
          let p = partition-parts (block_graph its-code b) (parts_at ps b) (parts.parts b low) in
          let inside = λ (k : ℕ) (z : ℕ) (m : In z (order k)).
          in-class_at (parts_at ps b) k z (order-in (block_graph its-code b).edges (class_at (parts_at ps b) k) z m) in
          let s = sum-flat at-weight order (below (length (parts_at ps b))) in
          let a = sum-among at-weight (flat_map order (below (length (parts_at ps b)))) (below (length (block_graph its-code b).vertices))
          (distinct-flat order (below (length (parts_at ps b))) (distinct-below (length (parts_at ps b)))
          (λ k m. order-distinct (block_graph its-code b).edges (class_at (parts_at ps b) k) (parts.once b k))
          (λ i j z k l q r. p.once z i j (inside i z q) (inside j z r)))
          (λ z m.
          let r = in-flat_map order z (below (length (parts_at ps b))) m in
          below-in z (length (block_graph its-code b).vertices) (p.inside r.0 z (inside r.0 z r.2))) in
          omega (arith, s, a)

      -- all classes of the block
      block-weight : sum_by (thread_weight w) (block_threads g its-code ps b) ≤ (w.vertex + w.head) * number_of_vertices its-code b
      block-weight =
          let all = below (length (parts_at ps b)) in
          let places = below (length (block_graph its-code b).vertices) in
          let many = number_of_vertices its-code b in
          let taken = λ (j : ℕ). length (takes its-code b (parts_at ps b) j) in
          let thread = class_thread g its-code ps b (block_graph its-code b) (parts_at ps b) in
          let c = length-below (length (parts_at ps b)) in
          let d = length-below (length (block_graph its-code b).vertices) in
          let y = few.few b low in
          let z = number_of_vertices-length its-code b in
          let m = sum-map (thread_weight w) thread all in
          let e = sum-least (λ k. thread_weight w (thread k)) (λ k. sum_by at-weight (order k) + (w.fork * forks k + w.head)) all (λ k i. class-weight k) in
          let s = sum-plus (λ k. sum_by at-weight (order k)) (λ k. w.fork * forks k + w.head) all in
          let t = sum-plus (λ k. w.fork * forks k) (λ k. w.head) all in
          let o = sum-limit (λ k. w.head) w.head many all (λ k i. omega arith) (omega (arith, c, y, z)) in
          let q = order-sum in
          let f = sum-times_least w.fork forks taken all places (edges-few its-code b (parts_at ps b)) in
          let v = sum-plus at-weight (λ j. w.fork * taken j) places in
          let x = sum-limit (λ j. at-weight j + w.fork * taken j) w.vertex many places
          (λ j i. vertex-weight w g its-code ps (vertex_at (block_graph its-code b) j)) (omega (arith, d, z)) in
          let u : (w.vertex + w.head) * many ≡ w.vertex * many + w.head * many = add-mul w.vertex w.head many in
          omega (arith, m, e, s, t, o, q, f, v, x, u)

    -- ---- connectors

    -- the forks into a block
    abbrev opened : ℕ → ℕ
    opened b = w.fork * classes b

    -- the words that a connector gives
    abbrev gifts : ThreadKind → ℕ
    gifts t = w.gift * length (given_by its-code t)

    -- the connectors of a cond
    cond-weight : (d y q : ℕ) → thread_weight w (cond_connector its-code ps d y q) + thread_weight w (cond_connector its-code ps d q y)
        ≤ w.node + (opened y + opened q)
    cond-weight d y q =
        let s = sum_by-cons w.weight (Skip (skipped_at its-code ps d q)) (block_entry its-code ps y) in
        let t = sum_by-cons w.weight (Skip (skipped_at its-code ps d y)) (block_entry its-code ps q) in
        let e = entry-weight y in
        let f = entry-weight q in
        let c = w.conds (skipped_at its-code ps d q) (skipped_at its-code ps d y) in
        omega (arith, s, t, e, f, c)

    -- of a node
    connector-weight : (x : ℕ) (k : Kind) → sum_by (thread_weight w) (connectors_at its-code ps x k)
        ≤ own k + (sum_by opened (branches_at k)
        + (w.gift * length (given its-code (then_block its-code k) k) + w.gift * length (given its-code (else_block its-code k) k)))
    connector-weight x (Cond p y q) =
        let a = cond-weight x y q in
        let s = sum_by-cons opened y (q ∷ []) in
        let t = sum_by-cons opened q [] in
        let u = sum_by-cons (thread_weight w) (cond_connector its-code ps x y q) (cond_connector its-code ps x q y ∷ []) in
        let v = sum_by-cons (thread_weight w) (cond_connector its-code ps x q y) [] in
        omega (arith, a, s, t, u, v)
    connector-weight x (Choose d k a) =
        let yes = node_in its-code (yes_of (kind_at its-code d)) (is_enter k) in
        let no = node_in its-code (no_of (kind_at its-code d)) (is_enter k) in
        let s = gifts-weight w its-code ps a yes in
        let t = gifts-weight w its-code ps a no in
        let c = w.conds 0 0 in
        let u = sum_by-cons (thread_weight w) (once (switch_into its-code ps a k (yes_of (kind_at its-code d))))
        (once (switch_into its-code ps a k (no_of (kind_at its-code d))) ∷ []) in
        let v = sum_by-cons (thread_weight w) (once (switch_into its-code ps a k (no_of (kind_at its-code d)))) [] in
        omega (arith, s, t, c, u, v)
    connector-weight x k = omega arith

    -- of all nodes
    connectors-weight : sum_by (thread_weight w) (flat_map (λ x. connectors_at its-code ps x (kind_at its-code x)) (node_numbers its-code))
        ≤ w.node * 1024 + sum_by opened (flat_map (λ x. branches_at (kind_at its-code x)) (node_numbers its-code))
    connectors-weight =
        let nodes = node_numbers its-code in
        let both = flat_map both_of nodes in
        let mine = λ (x : ℕ). own (kind_at its-code x) in
        let ins = λ (x : ℕ). as_in (kind_at its-code x) in
        let branches = λ (x : ℕ). branches_at (kind_at its-code x) in
        let a = sum-flat (thread_weight w) (λ x. connectors_at its-code ps x (kind_at its-code x)) nodes in
        let e = sum-least (λ x. sum_by (thread_weight w) (connectors_at its-code ps x (kind_at its-code x)))
        (λ x. mine x + (sum_by opened (branches x) + sum_by gifts (both_of x))) nodes
        (λ x m. let c = connector-weight x (kind_at its-code x) in omega (arith, c)) in
        let s = sum-plus mine (λ x. sum_by opened (branches x) + sum_by gifts (both_of x)) nodes in
        let t = sum-plus (λ x. sum_by opened (branches x)) (λ x. sum_by gifts (both_of x)) nodes in
        let o = sum-flat opened branches nodes in
        let u = sum-flat gifts both_of nodes in
        let v = sum-flat (λ t. length (given_by its-code t)) both_of nodes in
        let f = given-few g accepted n there ps parts in
        let h = sum-times_least w.gift (λ t. length (given_by its-code t)) ins both nodes (omega (arith, v, f)) in
        let p = sum-plus mine (λ x. w.gift * ins x) nodes in
        let l = length-below (length its-code.nodes) in
        let k = nodes-few g accepted n there ps few in
        let r = sum-limit (λ x. mine x + w.gift * ins x) w.node 1024 nodes (λ x m. own-few (kind_at its-code x)) (omega (arith, l, k)) in
        omega (arith, a, e, s, t, o, u, h, p, r)

    -- ---- all threads

    -- the whole code
    pub threads-weight : sum_by (thread_weight w) (compiled_code g (its-code, ps)).threads ≤ (w.vertex + w.head + w.node + w.fork) * 1024 + w.head
    threads-weight =
        let blocks = flat_map (block_threads g its-code ps) (blocks_of its-code) in
        let connectors = flat_map (λ x. connectors_at its-code ps x (kind_at its-code x)) (node_numbers its-code) in
        let branches = flat_map (λ x. branches_at (kind_at its-code x)) (node_numbers its-code) in
        let each = w.vertex + w.head in
        let many = sum_by (number_of_vertices its-code) (blocks_of its-code) in
        let a = sum_by-cons (thread_weight w) (once (block_entry its-code ps 0)) (blocks ++ connectors) in
        let b = sum_by-append (thread_weight w) blocks connectors in
        let c = sum-flat (thread_weight w) (block_threads g its-code ps) (blocks_of its-code) in
        let e = sum-least (λ b. sum_by (thread_weight w) (block_threads g its-code ps b)) (λ b. each * number_of_vertices its-code b) (blocks_of its-code)
        (λ b m. block-weight b (in-below b (length its-code.owners) m)) in
        let f = sum-times each (number_of_vertices its-code) (blocks_of its-code) in
        let h = test-below _ 1025 its-text.small in
        let i : each * many ≤ each * 1024 = mul-le each many each 1024 (omega arith) (omega (arith, h)) in
        let k = connectors-weight in
        let l = entry-weight 0 in
        let o = sum_by-cons opened 0 branches in
        let p = sum-times w.fork classes (0 ∷ branches) in
        let q = sum_by-cons classes 0 branches in
        let m = entered-few g accepted n there ps few in
        let r : w.fork * sum_by classes (0 ∷ branches) ≤ w.fork * 1024 = mul-le w.fork (sum_by classes (0 ∷ branches)) w.fork 1024 (omega arith)
        (omega (arith, q, m)) in
        omega (arith, a, b, c, e, f, i, k, l, o, p, r)
