-- How many threads stand for a block: never more than the code has, so what a skip skips is small.
use Rattle.std.proofs.Common.{◌≡◌, ℕ, zero, suc, ◌+◌, ◌*◌, ◌<◌, ◌≤◌, List, [], ◌∷◌, flat_map, length, refl, sym, ap, subst, ◌∙◌, arith}
use Rattle.std.proofs.Common.{inl, inr}
use Rattle.std.specs.List.{sum_by}
use Rattle.std.proofs.lemmas.List.Sums.{sum_by-cons, sum_by-append, count_by-le-length}
use Rattle.std.proofs.Math.Nat.{mul-le-mul_right, suc-mul}
use Rattle.tam_word.proofs.Tests.{below-test, test-below}
use Rattle.tam_word.proofs.Members.{In, Distinct, in-flat_map, in-below, below-in, distinct-below}
use Rattle.tam_graph.specs.declared.kind.Kind.{Kind}
use Rattle.tam_graph.specs.declared.kind.Kind.TheVariants.{Cond, Switch as Choose}
use Rattle.tam_graph.specs.Graphs.{Code, Graph, code_of, kind_at, node_numbers, nodes_in, owner_of, blocks_of}
use Rattle.tam_graph.specs.Written.{IsWritten, in_file_order, number_of_vertices}
use Rattle.tam_graph.specs.Accepted.{IsAccepted, is_switch_of}
use Rattle.tam_graph.proofs.BranchBlocks.{branches-below, has-body}
use Rattle.tam_graph.proofs.FewNodes.{few-nodes, length-below}
use Rattle.tam_split.specs.Partitions.{Parts}
use Rattle.tam_split.proofs.Vertices.{few-vertices, number_of_vertices-length}
use Rattle.tl0_keep.specs.Compiled.{parts_at, standing, standing_for, skipped_at}
use Rattle.tl0_keep.proofs.code.DistinctLists.{distinct-flat}
use Rattle.tl0_keep.proofs.code.BranchNumbers.{branch-later}
use Rattle.tl0_keep.proofs.code.BranchOwning.{branches-owned}
use Rattle.tl0_keep.proofs.code.CleanCodes.{AreFew}
use Rattle.tl0_keep.proofs.code.BlockTree.{below-cond, in-order, visited-once, visited-node}
use Rattle.tl0_keep.proofs.code.Sums.{sum-among, sum-least, sum-flat}

-- ---- branches

-- the branches of a node
abbrev pub branches_at : Kind → List ℕ
branches_at (Cond p y n) = y ∷ n ∷ []
branches_at _ = []

module _ (g : Graph) (accepted : IsAccepted g) (n : ℕ) (there : n < length g.codes) (ps : List Parts) (few : AreFew (code_of g n) ps) where
  -- the code
  abbrev its-code : Code
  its-code = code_of g n

  -- its code is written
  abbrev its-text : IsWritten (length g.codes) (code_of g n)
  its-text = accepted.written n (below-test n (length g.codes) there)

  -- how many classes a block has
  abbrev pub classes_in : ℕ → ℕ
  classes_in b = length (parts_at ps b)

  -- the branches of different conds differ
  branches-distinct : Distinct (flat_map (λ x. branches_at (kind_at its-code x)) (node_numbers its-code))
  branches-distinct =
      distinct-flat (λ x. branches_at (kind_at its-code x)) (node_numbers its-code) (distinct-below (length its-code.nodes))
      (λ x m. own x) (λ x y z a b p q. head x y (sym (owner x z p) ∙ owner y z q))
    where
      head : (i j : ℕ) → i ∷ [] ≡ j ∷ [] → i ≡ j
      head i j r = cc

      owner : (x z : ℕ) → In z (branches_at (kind_at its-code x)) → owner_of its-code z ≡ x ∷ []
      owner x z m = go (kind_at its-code x) refl m
        where
          go : (k : Kind) → kind_at its-code x ≡ k → In z (branches_at k) → owner_of its-code z ≡ x ∷ []
          go (Cond p y q) e (inl s) = subst (λ w. owner_of its-code w ≡ x ∷ []) s (branches-owned (length g.codes) its-code its-text x p y q e).0
          go (Cond p y q) e (inr (inl s)) = subst (λ w. owner_of its-code w ≡ x ∷ []) s (branches-owned (length g.codes) its-code its-text x p y q e).1
          go (Cond p y q) e (inr (inr s)) = absurd s
          go k e s = absurd s

      own : (x : ℕ) → Distinct (branches_at (kind_at its-code x))
      own x = go (kind_at its-code x) refl
        where
          go : (k : Kind) → kind_at its-code x ≡ k → Distinct (branches_at k)
          go (Cond p y q) e = (
            λ m. elim m [ inl s ↦ (branches-owned (length g.codes) its-code its-text x p y q e).2 (sym s) | inr s ↦ s ],
            (λ m. m, tt),
          )
          go k e = tt

  -- they are blocks
  branch-low : (z : ℕ) → In z (flat_map (λ x. branches_at (kind_at its-code x)) (node_numbers its-code)) → In z (blocks_of its-code)
  branch-low z m =
      let r = in-flat_map (λ x. branches_at (kind_at its-code x)) z (node_numbers its-code) m in
      go (kind_at its-code r.0) refl r.0 (in-below r.0 (length its-code.nodes) r.1) refl r.2
    where
      go : (k : Kind) → k ≡ k → (x : ℕ) → x < length its-code.nodes → kind_at its-code x ≡ kind_at its-code x → In z (branches_at (kind_at its-code x))
          → In z (blocks_of its-code)
      go k s x l t m = side (kind_at its-code x) refl m
        where
          side : (j : Kind) → kind_at its-code x ≡ j → In z (branches_at j) → In z (blocks_of its-code)
          side (Cond p y q) e (inl a) =
              below-in z (length its-code.owners) (subst (λ w. w < length its-code.owners) a (branches-below (length g.codes) its-code its-text x p y q l e).0)
          side (Cond p y q) e (inr (inl a)) =
              below-in z (length its-code.owners) (subst (λ w. w < length its-code.owners) a (branches-below (length g.codes) its-code its-text x p y q l e).1)
          side (Cond p y q) e (inr (inr a)) = absurd a
          side j e a = absurd a

  -- all blocks have at most 1,024 classes
  pub classes-few : sum_by classes_in (blocks_of its-code) ≤ 1024
  classes-few =
      let s = sum-least classes_in (number_of_vertices its-code) (blocks_of its-code)
      (λ b m. let f = few.few b (in-below b (length its-code.owners) m) in let v = number_of_vertices-length its-code b in omega (arith, f, v)) in
      let t = test-below _ 1025 its-text.small in
      omega (arith, s, t)

  -- and so have all branches
  pub branches-few : sum_by classes_in (flat_map (λ x. branches_at (kind_at its-code x)) (node_numbers its-code)) ≤ 1024
  branches-few =
      let a = sum-among classes_in (flat_map (λ x. branches_at (kind_at its-code x)) (node_numbers its-code))
      (blocks_of its-code) branches-distinct branch-low in
      let b = classes-few in
      omega (arith, a, b)

  -- none of them is the body
  body-apart : In 0 (flat_map (λ x. branches_at (kind_at its-code x)) (node_numbers its-code)) → ⊥
  body-apart m =
      let r = in-flat_map (λ x. branches_at (kind_at its-code x)) 0 (node_numbers its-code) m in
      go r.0 (kind_at its-code r.0) refl r.2
    where
      go : (x : ℕ) (k : Kind) → kind_at its-code x ≡ k → In 0 (branches_at k) → ⊥
      go x (Cond p y q) e (inl s) = let l = (branch-later (length g.codes) its-code its-text x p y q e).0 in absurd (omega (arith, s, l))
      go x (Cond p y q) e (inr (inl s)) = let l = (branch-later (length g.codes) its-code its-text x p y q e).1 in absurd (omega (arith, s, l))
      go x (Cond p y q) e (inr (inr s)) = absurd s
      go x k e s = absurd s

  -- so the body and all branches have at most 1,024 classes together
  pub entered-few : classes_in 0 + sum_by classes_in (flat_map (λ x. branches_at (kind_at its-code x)) (node_numbers its-code)) ≤ 1024
  entered-few =
      let branches = flat_map (λ x. branches_at (kind_at its-code x)) (node_numbers its-code) in
      let a = sum-among classes_in (0 ∷ branches) (blocks_of its-code) (body-apart, branches-distinct) inside in
      let s = sum_by-cons classes_in 0 branches in
      let b = classes-few in
      omega (arith, a, s, b)
    where
      inside : (z : ℕ) → In z (0 ∷ flat_map (λ x. branches_at (kind_at its-code x)) (node_numbers its-code)) → In z (blocks_of its-code)
      inside z (inl e) = subst (λ y. In y (blocks_of its-code)) e (below-in 0 (length its-code.owners) (has-body (length g.codes) its-code its-text))
      inside z (inr i) = branch-low z i

  -- how many nodes there are at most
  pub nodes-few : length its-code.nodes ≤ 1024
  nodes-few = few-nodes (length g.codes) its-code its-text

  -- what has at most m for itself and the classes of its branches, has little in all
  pub sum-nodes : (w : ℕ → ℕ) (m : ℕ) → ((x : ℕ) → In x (node_numbers its-code) → w x ≤ m + sum_by classes_in (branches_at (kind_at its-code x)))
      → sum_by w (node_numbers its-code) ≤ 1024 * m + 1024
  sum-nodes w m h =
      let s = sum-least w (λ x. m + sum_by classes_in (branches_at (kind_at its-code x))) (node_numbers its-code) h in
      let f = sum-flat classes_in (λ x. branches_at (kind_at its-code x)) (node_numbers its-code) in
      let t = constant (λ x. sum_by classes_in (branches_at (kind_at its-code x))) (node_numbers its-code) in
      let b = branches-few in
      let l = length-below (length its-code.nodes) in
      let k = nodes-few in
      let p : length (node_numbers its-code) * m ≤ 1024 * m = mul-le-mul_right m (omega (arith, l, k)) in
      omega (arith, s, f, t, b, p)
    where
      constant : (f : ℕ → ℕ) (xs : List ℕ) → sum_by (λ x. m + f x) xs ≡ length xs * m + sum_by f xs
      constant f [] = omega arith
      constant f (x ∷ xs) =
          let i = constant f xs in
          let a = sum_by-cons (λ y. m + f y) x xs in
          let b = sum_by-cons f x xs in
          let e = suc-mul (length xs) m in
          omega (arith, i, a, b, e)

  -- ---- standing

  -- how many threads stand for a node, without what stands in its branches
  weight : Kind → ℕ
  weight (Cond p y q) = 2 + classes_in y + classes_in q
  weight (Choose d k a) = 2
  weight _ = 0

  -- the sum of the weights of nodes
  weights : List ℕ → ℕ
  weights xs = sum_by (λ x. weight (kind_at its-code x)) xs

  -- what stands for a node is its weight and the weights of the nodes in its branches
  standing-node : (fuel : ℕ) → ((d : ℕ) → standing fuel its-code ps d ≤ classes_in d + weights (in_file_order fuel its-code d)) → (k : Kind)
      → standing_for (standing fuel its-code ps) k ≤ weight k + weights (below-cond (length g.codes) its-code its-text fuel k)
  unfolding weight weights
  standing-node fuel h (Cond p y q) =
      let a = h y in
      let b = h q in
      let s = sum_by-append (λ x. weight (kind_at its-code x)) (in_file_order fuel its-code y) (in_file_order fuel its-code q) in
      omega (arith, a, b, s)
  standing-node fuel h (Choose d k a) = omega arith
  standing-node fuel h k = omega arith

  -- and of several
  standing-nodes : (fuel : ℕ) → ((d : ℕ) → standing fuel its-code ps d ≤ classes_in d + weights (in_file_order fuel its-code d)) → (xs : List ℕ)
      → sum_by (λ x. standing_for (standing fuel its-code ps) (kind_at its-code x)) xs
      ≤ weights (flat_map (λ x. x ∷ below-cond (length g.codes) its-code its-text fuel (kind_at its-code x)) xs)
  unfolding weight weights
  standing-nodes fuel h [] = omega arith
  standing-nodes fuel h (x ∷ xs) =
      let i = standing-nodes fuel h xs in
      let o = standing-node fuel h (kind_at its-code x) in
      let a = sum_by-cons (λ y. standing_for (standing fuel its-code ps) (kind_at its-code y)) x xs in
      let b = sum_by-append (λ y. weight (kind_at its-code y)) (x ∷ below-cond (length g.codes) its-code its-text fuel (kind_at its-code x))
      (flat_map (λ y. y ∷ below-cond (length g.codes) its-code its-text fuel (kind_at its-code y)) xs) in
      let d = sum_by-cons (λ y. weight (kind_at its-code y)) x (below-cond (length g.codes) its-code its-text fuel (kind_at its-code x)) in
      omega (arith, i, o, a, b, d)

  -- what stands for a block is its classes and the weights of the nodes visited from it
  standing-visited : (fuel b : ℕ) → standing fuel its-code ps b ≤ classes_in b + weights (in_file_order fuel its-code b)
  unfolding weights
  standing-visited zero b = omega arith
  standing-visited (suc fuel) b =
      let i = standing-nodes fuel (λ d. standing-visited fuel d) (nodes_in its-code b) in
      let e = ap (sum_by (λ x. weight (kind_at its-code x))) (in-order (length g.codes) its-code its-text fuel b) in
      omega (arith, i, e)

  -- the weights of all nodes
  weights-few : weights (node_numbers its-code) ≤ 3072
  unfolding weight weights
  weights-few = let s = sum-nodes (λ x. weight (kind_at its-code x)) 2 (λ x m. one (kind_at its-code x)) in omega (arith, s)
    where
      one : (k : Kind) → weight k ≤ 2 + sum_by classes_in (branches_at k)
      one (Cond p y q) = let a = sum_by-cons classes_in y (q ∷ []) in let b = sum_by-cons classes_in q [] in omega (arith, a, b)
      one (Choose d k a) = omega arith
      one k = omega arith

  -- a block has few classes
  pub classes-small : (b : ℕ) → b < length its-code.owners → classes_in b ≤ 512
  classes-small b l = let f = few.few b l in let v = few-vertices g accepted n b there l in omega (arith, f, v)

  -- so few threads stand for a block
  pub standing-small : (fuel b : ℕ) → b < length its-code.owners → standing fuel its-code ps b ≤ 3584
  unfolding weights
  standing-small fuel b l =
      let s = standing-visited fuel b in
      let w = sum-among (λ x. weight (kind_at its-code x)) (in_file_order fuel its-code b) (node_numbers its-code)
      (visited-once (length g.codes) its-code its-text fuel b) (λ z m. visited-node (length g.codes) its-code its-text fuel b z m) in
      go s w
    where
      go : standing fuel its-code ps b ≤ classes_in b + weights (in_file_order fuel its-code b)
          → weights (in_file_order fuel its-code b) ≤ weights (node_numbers its-code) → standing fuel its-code ps b ≤ 3584
      go s w = let c = classes-small b l in let f = weights-few in omega (arith, s, w, c, f)

  -- and a skip skips few
  pub skipped-small : (d b : ℕ) → b < length its-code.owners → skipped_at its-code ps d b ≤ 4609
  skipped-small d b l =
      let s = standing-small (length its-code.owners) b l in
      let c = count_by-le-length (λ x. is_switch_of d (kind_at its-code x)) (node_numbers its-code) in
      let e = length-below (length its-code.nodes) in
      let k = nodes-few in
      omega (arith, s, c, e, k)
