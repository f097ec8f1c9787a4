-- The blocks of a code with the nodes of a tree of lines open in order, each by its cond.
use Rattle.std.proofs.Common.{◌≡◌, ℕ, zero, suc, ◌+◌, ◌≤◌, Bool, true, false, List, [], ◌∷◌, ◌++◌, length, map, flat_map, zip, Option, Some, None, refl, sym}
use Rattle.std.proofs.Common.{ap, ap₂, subst, ◌∙◌, append_assoc, arith}
use Rattle.std.specs.Prelude.{slice_get}
use Rattle.std.proofs.lemmas.List.{append-nil, length-append}
use Rattle.std.proofs.lemmas.List.Concat.{flat_map-cons, flat_map-append}
use Rattle.tam_graph.specs.declared.kind.Kind.{Kind}
use Rattle.tam_graph.specs.declared.kind.Kind.TheVariants as kind
use Rattle.tam_graph.specs.declared.node.Node.{Node}
use Rattle.tam_graph.specs.Graphs.{Code, or_kind, kind_at, block_at, node_numbers, blocks_of}
use Rattle.tam_graph.specs.Written.{Visit, AtNode, AtElse, AtEnd, visits, node_visited, opened_by, in_file_order, in_opening_order}
use Rattle.tam_graph.proofs.Visited.{Items, size, opened, visits_of, is_plain, visits-is}
use Rattle.tam_read.specs.declared.form.Verb.TheVariants as verb
use Rattle.tam_read.specs.Sentences.{Sentence, roles_of}
use Rattle.tam_read.specs.Naming.{Known, first_number}
use Rattle.tam_read.proofs.Nested.{Tree, Done, Plain, Branch, Fits}
use Rattle.tam_read.proofs.TreeBuilt.{shape, tree_nodes, tree_owners, length-tree_nodes, length-tree_owners}
use Rattle.tam_read.proofs.TreeVisited.{Holds, holds, agrees, plain-kind, past_end, in_row, below-row, nodes-in-row}

-- numbers in a row beside a list and others behind it
zip-row : (k m n : ℕ) (os ps : List (Option ℕ)) → length os ≡ m → zip (in_row k (m + n)) (os ++ ps) ≡ zip (in_row k m) os ++ zip (in_row (k + m) n) ps
zip-row k zero n [] ps e = let a : 0 + n ≡ n = omega arith in let b : k + 0 ≡ k = omega arith in rw (a, b) refl
zip-row k zero n (o ∷ os) ps e = absurd (omega arith)
zip-row k (suc m) n [] ps e = absurd (omega arith)
zip-row k (suc m) n (o ∷ os) ps e =
    let a : suc m + n ≡ suc (m + n) = omega arith in
    let b : k + suc m ≡ suc k + m = omega arith in
    let l : length os ≡ m = omega arith in
    rw (a, b) (ap (λ xs. (k, o) ∷ xs) (zip-row (suc k) m n os ps l))

-- what a line opens, by its kind
plain-opens : (x : ℕ) (k : Kind) → is_plain k ≡ true → (elim k as (λ _. List (ℕ × Option ℕ)) [ kind.Cond p y n ↦ (y, Some x) ∷ [] | _ ↦ [] ]) ≡ []
plain-opens x (kind.Cond p y n) e = absurd cc
plain-opens x k e = refl

-- a node that is no cond opens none
plain-opened : (c : Code) (x : ℕ) → is_plain (kind_at c x) ≡ true → opened_by c (AtNode x) ≡ []
plain-opened c x e = plain-opens x (kind_at c x) e

-- a cond opens its then block, and its `else` its else block
cond-opened : (c : Code) (x p y n : ℕ) → kind_at c x ≡ kind.Cond p y n → (opened_by c (AtNode x) ≡ (y, Some x) ∷ [])
    × (opened_by c (AtElse x) ≡ (n, Some x) ∷ [])
cond-opened c x p y n e = (rw (opened_by, e) refl, rw (opened_by, e) refl)

-- the blocks that a tree's lines open
pub blocks-in-row : (c : Code) (q : Known) (t : Tree) (b x k : ℕ) → Fits t → Holds c q t b x k
    → flat_map (opened_by c) (visits_of (shape t) x) ≡ zip (in_row k (opened (shape t))) (tree_owners t x)
blocks-in-row c q Done b x k f h = refl
blocks-in-row c q (Plain s r) b x k f h =
    flat_map-cons (opened_by c) (AtNode x) (visits_of (shape r) (suc x))
    ∙ ap₂ (λ a d. a ++ d) (plain-opened c x (ap (λ o. is_plain (or_kind o)) h.0 ∙ plain-kind s.verb _ _ _ 0 f.0)) (blocks-in-row c q r b (suc x) k f.1 h.1)
blocks-in-row c q (Branch s y t n e r) b x k f h =
    let j = suc k + opened (shape y) in
    let l = suc j + opened (shape n) in
    let u = suc x + size (shape y) in
    let v = suc x + size (shape y) + size (shape n) in
    let vy = visits_of (shape y) (suc x) in
    let vn = visits_of (shape n) u in
    let vr = visits_of (shape r) v in
    let oy = tree_owners y (suc x) in
    let on = tree_owners n u in
    let or = tree_owners r v in
    let opens = cond-opened c x (first_number q (roles_of s.verb) s.rest) k j (ap or_kind h.0) in
    let behind = vn ++ AtEnd x ∷ [] in
    let ends : flat_map (opened_by c) (AtEnd x ∷ []) ≡ [] = flat_map-cons (opened_by c) (AtEnd x) [] in
    let other : flat_map (opened_by c) behind ≡ zip (in_row (suc j) (opened (shape n))) on =
    flat_map-append (opened_by c) vn (AtEnd x ∷ []) ∙ ap₂ (λ a d. a ++ d) (blocks-in-row c q n j u (suc j) f.3 h.2) ends
    ∙ append-nil (zip (in_row (suc j) (opened (shape n))) on) in
    let turn : flat_map (opened_by c) (AtElse x ∷ behind) ≡ (j, Some x) ∷ zip (in_row (suc j) (opened (shape n))) on =
    flat_map-cons (opened_by c) (AtElse x) behind ∙ ap₂ (λ a d. a ++ d) opens.1 other in
    let middle : flat_map (opened_by c) (vy ++ (AtElse x ∷ behind)) ≡ zip (in_row (suc k) (opened (shape y))) oy ++
    ((j, Some x) ∷ zip (in_row (suc j) (opened (shape n))) on) =
    flat_map-append (opened_by c) vy (AtElse x ∷ behind) ∙ ap₂ (λ a d. a ++ d) (blocks-in-row c q y k (suc x) (suc k) f.1 h.1) turn in
    let tail : zip (in_row j (suc (opened (shape n) + opened (shape r)))) (Some x ∷ (on ++ or))
    ≡ (j, Some x) ∷ (zip (in_row (suc j) (opened (shape n))) on ++ zip (in_row l (opened (shape r))) or) =
    ap (λ d. (j, Some x) ∷ d) (zip-row (suc j) (opened (shape n)) (opened (shape r)) on or (length-tree_owners n u)) in
    flat_map-cons (opened_by c) (AtNode x) ((vy ++ (AtElse x ∷ behind)) ++ vr)
    ∙ ap₂ (λ a d. a ++ d) opens.0 (flat_map-append (opened_by c) (vy ++ (AtElse x ∷ behind)) vr ∙ ap₂ (λ a d. a ++ d) middle (blocks-in-row c q r b v l f.5 h.3)
    ∙ append_assoc (zip (in_row (suc k) (opened (shape y))) oy) ((j, Some x) ∷ zip (in_row (suc j) (opened (shape n))) on)
    (zip (in_row l (opened (shape r))) or)
    ∙ ap (λ d. zip (in_row (suc k) (opened (shape y))) oy ++ d) (sym tail)
    ∙ sym (zip-row (suc k) (opened (shape y)) (suc (opened (shape n) + opened (shape r))) oy (Some x ∷ (on ++ or)) (length-tree_owners y (suc x))))

-- ---- a code of a tree

-- the code has the tree's nodes and its blocks
pub record IsOfTree (q : Known) (t : Tree) (c : Code) : Type 0 where
  pub fits : Fits t
  pub nodes : c.nodes ≡ tree_nodes q t 0 1
  pub owners : c.owners ≡ None ∷ tree_owners t 0

module _ (q : Known) (t : Tree) (c : Code) (of : IsOfTree q t c) where
  pub stands : Holds c q t 0 0 1
  stands = holds q c t 0 0 1 [] [] (of.nodes ∙ sym (append-nil (tree_nodes q t 0 1))) refl

  pub few-blocks : length c.owners ≡ suc (opened (shape t))
  few-blocks = ap length of.owners ∙ ap suc (length-tree_owners t 0)

  pub few-nodes : length c.nodes ≡ size (shape t)
  few-nodes = ap length of.nodes ∙ length-tree_nodes q t 0 1

  -- it is visited as the tree is
  pub visited-so : visits (length c.owners) c 0 ≡ visits_of (shape t) 0
  visited-so =
      let bound : opened (shape t) ≤ opened (shape t) = omega arith in
      ap (λ f. visits f c 0) few-blocks
      ∙ visits-is (opened (shape t)) c (shape t) (agrees q c t 0 0 1 of.fits stands) few-nodes bound
      (λ z h. past_end c.nodes z (let l = few-nodes in omega arith))

  pub nodes-ordered : in_file_order (length c.owners) c 0 ≡ node_numbers c
  nodes-ordered = ap (flat_map node_visited) visited-so ∙ nodes-in-row (shape t) 0 ∙ sym (below-row (length c.nodes) ∙ ap (in_row 0) few-nodes)

  pub blocks-ordered : (0, None) ∷ in_opening_order (length c.owners) c 0 ≡ zip (blocks_of c) c.owners
  blocks-ordered =
      ap (λ vs. (0, None) ∷ flat_map (opened_by c) vs) visited-so ∙ ap (λ d. (0, None) ∷ d) (blocks-in-row c q t 0 0 1 of.fits stands)
      ∙ sym (ap₂ (λ ks os. zip ks os) (below-row (length c.owners) ∙ ap (in_row 0) few-blocks) of.owners)
