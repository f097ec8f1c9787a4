-- How many blocks a code has: block 0, and two for each cond.
use Rattle.std.proofs.Common.{◌≡◌, ℕ, zero, suc, ◌+◌, ◌*◌, ◌≤◌, List, [], ◌∷◌, ◌++◌, length, flat_map, min, arith, refl, ap, ◌∙◌}
use Rattle.std.proofs.lemmas.List.{length-append}
use Rattle.std.proofs.lemmas.List.Concat.{flat_map-append}
use Rattle.std.proofs.lemmas.Slice.Zip.{length-zip}
use Rattle.tam_graph.specs.declared.kind.Kind.{Kind}
use Rattle.tam_graph.specs.declared.kind.Kind.TheVariants.{Cond}
use Rattle.tam_graph.specs.Graphs.{Code, kind_at, nodes_in, blocks_of}
use Rattle.tam_graph.specs.Written.{IsWritten, Visit, AtNode, AtElse, AtEnd, branches, visits, node_visited, opened_by}
use Rattle.tam_graph.proofs.FewNodes.{few-nodes, length-below}

-- how many blocks such lines open
abbrev opened : Code → List Visit → ℕ
opened c vs = length (flat_map (opened_by c) vs)

-- how many nodes such lines are of
abbrev noded : List Visit → ℕ
noded vs = length (flat_map node_visited vs)

-- lines one behind another open as many as they open apart
opened-append : (c : Code) (us vs : List Visit) → opened c (us ++ vs) ≡ opened c us + opened c vs
opened-append c us vs = ap length (flat_map-append (opened_by c) us vs) ∙ length-append (flat_map (opened_by c) us) (flat_map (opened_by c) vs)

-- and are of as many nodes
noded-append : (us vs : List Visit) → noded (us ++ vs) ≡ noded us + noded vs
noded-append us vs = ap length (flat_map-append node_visited us vs) ∙ length-append (flat_map node_visited us) (flat_map node_visited vs)

-- a line opens a block at most
opened-one : (c : Code) (v : Visit) → length (opened_by c v) ≤ 1
opened-one c (AtNode x) = go (kind_at c x) refl
  where
    go : (k : Kind) → kind_at c x ≡ k → length (opened_by c (AtNode x)) ≤ 1
    go (Cond p y n) e = rw (opened_by, e) (omega arith)
    go k e = rw (opened_by, e) (omega arith)
opened-one c (AtElse x) = go (kind_at c x) refl
  where
    go : (k : Kind) → kind_at c x ≡ k → length (opened_by c (AtElse x)) ≤ 1
    go (Cond p y n) e = rw (opened_by, e) (omega arith)
    go k e = rw (opened_by, e) (omega arith)
opened-one c (AtEnd x) = omega arith

-- a line in front opens what it opens
opened-cons : (c : Code) (v : Visit) (vs : List Visit) → opened c (v ∷ vs) ≡ length (opened_by c v) + opened c vs
opened-cons c v vs = length-append (opened_by c v) (flat_map (opened_by c) vs)

-- and adds its nodes
noded-cons : (v : Visit) (vs : List Visit) → noded (v ∷ vs) ≡ length (node_visited v) + noded vs
noded-cons v vs = length-append (node_visited v) (flat_map node_visited vs)

-- where each block opens at most two blocks for each of its nodes, so do a node and its branches
opened-node : (c : Code) (each : ℕ → List Visit) → ((b : ℕ) → opened c (each b) ≤ 2 * noded (each b)) → (x : ℕ) (k : Kind)
    → opened c (AtNode x ∷ branches each x k) ≤ 2 * noded (AtNode x ∷ branches each x k)
opened-node c each few x (Cond p y n) =
    let rest = AtElse x ∷ each n ++ AtEnd x ∷ [] in
    let last = each n ++ AtEnd x ∷ [] in
    let a = opened-cons c (AtNode x) (each y ++ rest) in
    let b = opened-append c (each y) rest in
    let d = opened-cons c (AtElse x) last in
    let e = opened-append c (each n) (AtEnd x ∷ []) in
    let m = noded-cons (AtNode x) (each y ++ rest) in
    let n1 = noded-append (each y) rest in
    let n2 = noded-cons (AtElse x) last in
    let n3 = noded-append (each n) (AtEnd x ∷ []) in
    count _ _ _ _ _ _ _ _ (opened-one c (AtNode x)) (opened-one c (AtElse x)) (few y) (few n)
    (a ∙ ap (λ z. length (opened_by c (AtNode x)) + z) (b ∙ ap (λ z. opened c (each y) + z) (d ∙ ap (λ z. length (opened_by c (AtElse x)) + z) e)))
    (m ∙ ap (λ z. 1 + z) (n1 ∙ ap (λ z. noded (each y) + z) (n2 ∙ ap (λ z. 0 + z) n3)))
  where
    count : (here else_ oy on ny nn t u : ℕ) → here ≤ 1 → else_ ≤ 1 → oy ≤ 2 * ny → on ≤ 2 * nn → t ≡ here + (oy + (else_ + (on + 0)))
        → u ≡ 1 + (ny + (0 + (nn + 0))) → t ≤ 2 * u
    count here else_ oy on ny nn t u h e o p q r = omega arith
opened-node c each few x k = let one = opened-one c (AtNode x) in omega (arith, one, opened-cons c (AtNode x) [])

-- so do the lines of any nodes
opened-nodes : (c : Code) (each : ℕ → List Visit) → ((b : ℕ) → opened c (each b) ≤ 2 * noded (each b)) → (xs : List ℕ)
    → opened c (flat_map (λ x. AtNode x ∷ branches each x (kind_at c x)) xs) ≤ 2 * noded (flat_map (λ x. AtNode x ∷ branches each x (kind_at c x)) xs)
opened-nodes c each few [] = omega arith
opened-nodes c each few (x ∷ xs) =
    let first = AtNode x ∷ branches each x (kind_at c x) in
    let more = flat_map (λ y. AtNode y ∷ branches each y (kind_at c y)) xs in
    sum _ _ _ _ _ _ (opened-node c each few x (kind_at c x)) (opened-nodes c each few xs) (opened-append c first more) (noded-append first more)
  where
    sum : (a b d e t u : ℕ) → a ≤ 2 * b → d ≤ 2 * e → t ≡ a + d → u ≡ b + e → t ≤ 2 * u
    sum a b d e t u h k p q = omega arith

-- a block and the blocks in it open at most two blocks for each of their nodes
opened-block : (fuel : ℕ) (c : Code) (b : ℕ) → opened c (visits fuel c b) ≤ 2 * noded (visits fuel c b)
opened-block zero c b = omega arith
opened-block (suc fuel) c b = opened-nodes c (visits fuel c) (opened-block fuel c) (nodes_in c b)

-- a code has at most twice as many blocks as nodes, and one more
pub blocks-by-nodes : (codes : ℕ) (c : Code) → IsWritten codes c → length c.owners ≤ 2 * length c.nodes + 1
blocks-by-nodes codes c written =
    count _ _ _ _ _ (opened-block (length c.owners) c 0) (ap length written.nodes_in_order ∙ length-below (length c.nodes))
    (ap length written.blocks_in_order ∙ length-zip (blocks_of c) c.owners) (length-below (length c.owners))
  where
    count : (o u n z m : ℕ) → o ≤ 2 * u → u ≡ n → suc o ≡ min z m → z ≡ m → m ≤ 2 * n + 1
    count o u n z m h e s p = omega arith

-- so a code within the limits has at most 2049
pub few-blocks : (codes : ℕ) (c : Code) → IsWritten codes c → length c.owners ≤ 2049
few-blocks codes c written =
    let blocks = blocks-by-nodes codes c written in
    let nodes = few-nodes codes c written in
    omega (arith, blocks, nodes)
