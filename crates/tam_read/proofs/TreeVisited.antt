-- A code with the nodes of a tree of lines is visited as the tree is, in the order of its nodes and of its blocks.
use Rattle.std.proofs.Common.{◌≡◌, ℕ, zero, suc, ◌+◌, ◌≤◌, Bool, true, false, List, [], ◌∷◌, ◌++◌, length, map, flat_map, zip, Option, Some, None, refl, sym}
use Rattle.std.proofs.Common.{ap, ap₂, subst, ◌∙◌, append_assoc, arith}
use Rattle.std.specs.Prelude.{slice_get}
use Rattle.std.proofs.lemmas.List.{append-nil, length-append}
use Rattle.std.proofs.lemmas.List.Concat.{flat_map-cons, flat_map-append}
use Rattle.tam_graph.specs.declared.kind.Kind.{Kind}
use Rattle.tam_graph.specs.declared.kind.Kind.TheVariants as kind
use Rattle.tam_graph.specs.declared.node.Node.{Node}
use Rattle.tam_graph.specs.Graphs.{Code, or_kind, or_block, kind_at, block_at, node_numbers, blocks_of}
use Rattle.tam_graph.specs.Written.{Visit, AtNode, AtElse, AtEnd, visits, node_visited, opened_by, in_file_order, in_opening_order}
use Rattle.tam_graph.proofs.Visited.{Items, Done as NoItem, Plain as Item, Branch as Split, size, opened, visits_of, Agrees, is_plain, visits-is}
use Rattle.tam_word.specs.Lists.{below}
use Rattle.tam_read.specs.declared.form.Verb.{Verb}
use Rattle.tam_read.specs.declared.form.Verb.TheVariants as verb
use Rattle.tam_read.specs.Sentences.{Sentence, roles_of}
use Rattle.tam_read.specs.Naming.{Known, first_number}
use Rattle.tam_read.specs.Building.{kind_made}
use Rattle.tam_read.proofs.Nested.{Tree, Done, Plain, Branch, Fits, is_plain_verb}
use Rattle.tam_read.proofs.TreeBuilt.{shape, node_plain, node_cond, tree_nodes, tree_owners, length-tree_nodes, length-tree_owners}

-- ---- the node of each line stands at its place

-- the code's nodes from x on are those of the tree's lines, in block b, where k is the next block
abbrev pub Holds : Code → Known → Tree → ℕ → ℕ → ℕ → Type 0
Holds c q Done b x k = Unit {0}
Holds c q (Plain s r) b x k = (slice_get c.nodes x ≡ Some (node_plain q b s)) × Holds c q r b (suc x) k
Holds c q (Branch s y t n e r) b x k =
    (slice_get c.nodes x ≡ Some (node_cond q b k (suc k + opened (shape y)) s)) × Holds c q y k (suc x) (suc k)
    × Holds c q n (suc k + opened (shape y)) (suc x + size (shape y)) (suc (suc k + opened (shape y)))
    × Holds c q r b (suc x + size (shape y) + size (shape n)) (suc (suc k + opened (shape y)) + opened (shape n))

-- a node behind others stands at their number
at_prefix : (prefix : List Node) (n : Node) (back : List Node) → slice_get (prefix ++ n ∷ back) (length prefix) ≡ Some n
at_prefix [] n back = refl
at_prefix (f ∷ fs) n back = at_prefix fs n back

-- so does one in a row of nodes
node_at : (c : Code) (x : ℕ) (prefix : List Node) (n : Node) (back : List Node) → c.nodes ≡ prefix ++ n ∷ back → length prefix ≡ x
    → slice_get c.nodes x ≡ Some n
node_at c x prefix n back e l = ap (λ ns. slice_get ns x) e ∙ ap (slice_get (prefix ++ n ∷ back)) (sym l) ∙ at_prefix prefix n back

-- a row with one more is longer by one
longer : (prefix : List Node) (n : Node) (x : ℕ) → length prefix ≡ x → length (prefix ++ n ∷ []) ≡ suc x
longer prefix n x l = length-append prefix (n ∷ []) ∙ omega arith

-- a code whose list has the tree's nodes in a row has them at their places
pub holds : (q : Known) (c : Code) (t : Tree) (b x k : ℕ) (prefix back : List Node) → c.nodes ≡ prefix ++ (tree_nodes q t b k ++ back) → length prefix ≡ x
    → Holds c q t b x k
holds q c Done b x k prefix back e l = tt
holds q c (Plain s r) b x k prefix back e l =
    let n = node_plain q b s in (
      node_at c x prefix n (tree_nodes q r b k ++ back) e l,
      holds q c r b (suc x) k (prefix ++ n ∷ []) back (e
          ∙ sym (append_assoc prefix (n ∷ []) (tree_nodes q r b k ++ back))) (longer prefix n x l),
    )
holds q c (Branch s y t n e r) b x k prefix back same l =
    let j = suc k + opened (shape y) in
    let u = suc j + opened (shape n) in
    let node = node_cond q b k j s in
    let ys = tree_nodes q y k (suc k) in
    let ns = tree_nodes q n j (suc j) in
    let rs = tree_nodes q r b u in
    let f1 : List Node = prefix ++ node ∷ [] in
    let f2 : List Node = f1 ++ ys in
    let f3 : List Node = f2 ++ ns in
    let l1 : length f1 ≡ suc x = longer prefix node x l in
    let l2 : length f2 ≡ suc x + size (shape y) = length-append f1 ys ∙ ap (λ z. z + length ys) l1 ∙ ap (λ z. suc x + z) (length-tree_nodes q y k (suc k)) in
    let l3 : length f3 ≡ suc x + size (shape y) + size (shape n) = length-append f2 ns ∙ ap (λ z. z + length ns) l2
    ∙ ap (λ z. suc x + size (shape y) + z) (length-tree_nodes q n j (suc j)) in
    let e0 : (ys ++ (ns ++ rs)) ++ back ≡ ys ++ (ns ++ (rs ++ back)) = append_assoc ys (ns ++ rs) back ∙ ap (λ z. ys ++ z) (append_assoc ns rs back) in
    let e1 : c.nodes ≡ f1 ++ (ys ++ (ns ++ (rs ++ back))) = same ∙ ap (λ z. prefix ++ node ∷ z) e0
    ∙ sym (append_assoc prefix (node ∷ []) (ys ++ (ns ++ (rs ++ back)))) in
    let e2 : c.nodes ≡ f2 ++ (ns ++ (rs ++ back)) = e1 ∙ sym (append_assoc f1 ys (ns ++ (rs ++ back))) in
    let e3 : c.nodes ≡ f3 ++ (rs ++ back) = e2 ∙ sym (append_assoc f2 ns (rs ++ back)) in (
      node_at c x prefix node ((ys ++ (ns ++ rs)) ++ back) same l,
      holds q c y k (suc x) (suc k) f1 (ns ++ (rs ++ back)) e1 l1,
      holds q c n j (suc x + size (shape y)) (suc j) f2 (rs ++ back) e2 l2,
      holds q c r b (suc x + size (shape y) + size (shape n)) u f3 back e3 l3,
    )

-- the kind of a plain verb is no cond
pub plain-kind : (v : Verb) (x y z k : ℕ) → is_plain_verb v ≡ true → is_plain (kind_made v x y z k) ≡ true
plain-kind verb.Cond x y z k e = absurd cc
plain-kind v x y z k e = refl

-- so it agrees with the tree
pub agrees : (q : Known) (c : Code) (t : Tree) (b x k : ℕ) → Fits t → Holds c q t b x k → Agrees c (shape t) b x k
agrees q c Done b x k f h = tt
agrees q c (Plain s r) b x k f h = (ap or_block h.0, ap (λ o. is_plain (or_kind o)) h.0 ∙ plain-kind s.verb _ _ _ 0 f.0, agrees q c r b (suc x) k f.1 h.1)
agrees q c (Branch s y t n e r) b x k f h = (
  ap or_block h.0,
  (first_number q (roles_of s.verb) s.rest, ap or_kind h.0),
  agrees q c y k (suc x) (suc k) f.1 h.1,
  agrees q c n (suc k + opened (shape y)) (suc x + size (shape y)) (suc (suc k + opened (shape y))) f.3 h.2,
  agrees q c r b (suc x + size (shape y) + size (shape n)) (suc (suc k + opened (shape y)) + opened (shape n)) f.5 h.3,
)

-- behind the last node there is no block
pub past_end : (ns : List Node) (z : ℕ) → length ns ≤ z → or_block (slice_get ns z) ≡ 0
past_end [] z h = refl
past_end (n ∷ ns) zero h = absurd (omega arith)
past_end (n ∷ ns) (suc z) h = past_end ns z (omega arith)

-- ---- the order of nodes and of blocks

-- numbers in a row
abbrev pub in_row : ℕ → ℕ → List ℕ
in_row x zero = []
in_row x (suc m) = x ∷ in_row (suc x) m

-- a row in two parts
pub row-split : (x m n : ℕ) → in_row x (m + n) ≡ in_row x m ++ in_row (x + m) n
row-split x zero n = let a : 0 + n ≡ n = omega arith in let b : x + 0 ≡ x = omega arith in rw (a, b) refl
row-split x (suc m) n = let a : suc m + n ≡ suc (m + n) = omega arith in let b : x + suc m
    ≡ suc x + m = omega arith in rw (a, b) (ap (λ xs. x ∷ xs) (row-split (suc x) m n))

-- the numbers below n are a row
pub below-row : (n : ℕ) → below n ≡ in_row 0 n
below-row zero = refl
below-row (suc n) =
    let a : suc n ≡ n + 1 = omega arith in
    let b : 0 + n ≡ n = omega arith in
    ap (λ xs. xs ++ n ∷ []) (below-row n) ∙ sym (ap (in_row 0) a ∙ row-split 0 n 1 ∙ ap (λ k. in_row 0 n ++ in_row k 1) b)

-- the nodes are visited in order
pub nodes-in-row : (t : Items) (x : ℕ) → flat_map node_visited (visits_of t x) ≡ in_row x (size t)
nodes-in-row NoItem x = refl
nodes-in-row (Item r) x = flat_map-cons node_visited (AtNode x) (visits_of r (suc x)) ∙ ap (λ l. x ∷ l) (nodes-in-row r (suc x))
nodes-in-row (Split y n r) x =
    let u = suc x + size y in
    let v = suc x + size y + size n in
    let behind = visits_of n u ++ AtEnd x ∷ [] in
    let ends : flat_map node_visited (AtEnd x ∷ []) ≡ [] = flat_map-cons node_visited (AtEnd x) [] in
    let other : flat_map node_visited behind ≡ in_row u (size n) = flat_map-append node_visited (visits_of n u) (AtEnd x ∷ [])
    ∙ ap₂ (λ a b. a ++ b) (nodes-in-row n u) ends ∙ append-nil (in_row u (size n)) in
    let middle : flat_map node_visited (visits_of y (suc x) ++ (AtElse x ∷ behind)) ≡ in_row (suc x) (size y) ++ in_row u (size n) =
    flat_map-append node_visited (visits_of y (suc x)) (AtElse x ∷ behind)
    ∙ ap₂ (λ a b. a ++ b) (nodes-in-row y (suc x)) (flat_map-cons node_visited (AtElse x) behind ∙ other) in
    flat_map-cons node_visited (AtNode x) ((visits_of y (suc x) ++ (AtElse x ∷ behind)) ++ visits_of r v)
    ∙ ap (λ l. x ∷ l) (flat_map-append node_visited (visits_of y (suc x) ++ (AtElse x ∷ behind)) (visits_of r v) ∙ ap₂ (λ a b. a ++ b) middle (nodes-in-row r v)
    ∙ append_assoc (in_row (suc x) (size y)) (in_row u (size n)) (in_row v (size r))
    ∙ sym (row-split (suc x) (size y) (size n + size r) ∙ ap (λ l. in_row (suc x) (size y) ++ l) (row-split u (size n) (size r))))
