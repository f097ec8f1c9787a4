-- A code that is written is a tree of nodes: its nodes and blocks are numbered as the tree's are.
use Rattle.std.proofs.Common.{◌≡◌, ℕ, zero, suc, ◌+◌, ◌<◌, ◌≤◌, Bool, true, false, ◌==◌, List, [], ◌∷◌, ◌++◌, length, map, flat_map, zip, Option, Some, None}
use Rattle.std.proofs.Common.{refl, sym, ap, ap₂, subst, ◌∙◌, append_assoc, arith, inl, inr}
use Rattle.std.specs.Prelude.{slice_get}
use Rattle.std.proofs.lemmas.List.{append-nil, length-append, map-append}
use Rattle.std.proofs.lemmas.List.Concat.{flat_map-cons, flat_map-append}
use Rattle.tam_word.specs.Lists.{below}
use Rattle.tam_word.proofs.Members.{In, in-filter}
use Rattle.tam_word.proofs.Tests.{number-eq}
use Rattle.tam_graph.specs.declared.kind.Kind.{Kind}
use Rattle.tam_graph.specs.declared.kind.Kind.TheVariants as kind
use Rattle.tam_graph.specs.Graphs.{Code, kind_at, block_at, nodes_in, node_numbers, blocks_of}
use Rattle.tam_graph.specs.Written.{Visit, AtNode, AtElse, AtEnd, branches, visits, node_visited, opened_by, in_file_order, in_opening_order, IsWritten}
use Rattle.tam_graph.proofs.Visited.{Items, Done as NoItem, Plain as Item, Branch as Split, size, opened, visits_of, Agrees, is_plain}
use Rattle.tam_read.proofs.TreeVisited.{in_row, below-row, row-split}

-- ---- the tree of a code, with the numbers that its nodes have

-- lines as a tree, with the number of each node, and of a cond's blocks
pub data Numbered : Type 0 where
  Done : Numbered
  Plain : (node : ℕ) → (rest : Numbered) → Numbered
  Branch : (node : ℕ) → (test : ℕ) → (then_block : ℕ) → (else_block : ℕ) → (yes_part : Numbered) → (no_part : Numbered) → (rest : Numbered) → Numbered

-- a node before others, by what it does
abbrev node_tree : (ℕ → Numbered) → ℕ → Numbered → Kind → Numbered
node_tree each x r (kind.Cond p y n) = Branch x p y n (each y) (each n) r
node_tree each x r k = Plain x r

-- nodes in a row
abbrev from : Code → (ℕ → Numbered) → List ℕ → Numbered
from c each [] = Done
from c each (x ∷ xs) = node_tree each x (from c each xs) (kind_at c x)

-- a block and the blocks in it
abbrev pub tree_of : ℕ → Code → ℕ → Numbered
tree_of zero c b = Done
tree_of (suc fuel) c b = from c (tree_of fuel c) (nodes_in c b)

-- its visits
abbrev pub numbered_visits : Numbered → List Visit
numbered_visits Done = []
numbered_visits (Plain x r) = AtNode x ∷ numbered_visits r
numbered_visits (Branch x p y n ys ns r) = AtNode x ∷ ((numbered_visits ys ++ (AtElse x ∷ numbered_visits ns ++ AtEnd x ∷ [])) ++ numbered_visits r)

-- by what a node does
node-visits : (each : ℕ → Numbered) (look : ℕ → List Visit) → ((b : ℕ) → numbered_visits (each b) ≡ look b) → (x : ℕ) (r : Numbered) (k : Kind)
    → numbered_visits (node_tree each x r k) ≡ (AtNode x ∷ branches look x k) ++ numbered_visits r
node-visits each look h x r (kind.Cond p y n) =
    ap (λ vs. AtNode x ∷ ((vs ++ (AtElse x ∷ numbered_visits (each n) ++ AtEnd x ∷ [])) ++ numbered_visits r)) (h y)
    ∙ ap (λ vs. AtNode x ∷ ((look y ++ (AtElse x ∷ vs ++ AtEnd x ∷ [])) ++ numbered_visits r)) (h n)
node-visits each look h x r k = refl

-- nodes in a row
from-visits : (c : Code) (each : ℕ → Numbered) (look : ℕ → List Visit) → ((b : ℕ) → numbered_visits (each b) ≡ look b) → (xs : List ℕ)
    → numbered_visits (from c each xs) ≡ flat_map (λ x. AtNode x ∷ branches look x (kind_at c x)) xs
from-visits c each look h [] = refl
from-visits c each look h (x ∷ xs) =
    node-visits each look h x (from c each xs) (kind_at c x)
    ∙ ap (λ vs. (AtNode x ∷ branches look x (kind_at c x)) ++ vs) (from-visits c each look h xs)
    ∙ sym (flat_map-cons (λ x. AtNode x ∷ branches look x (kind_at c x)) x xs)

-- the tree is visited as the code is
pub tree-visits : (fuel : ℕ) (c : Code) (b : ℕ) → numbered_visits (tree_of fuel c b) ≡ visits fuel c b
tree-visits zero c b = refl
tree-visits (suc fuel) c b = from-visits c (tree_of fuel c) (visits fuel c) (tree-visits fuel c) (nodes_in c b)

-- ---- its nodes stand in their blocks

-- each node is one of its block, and a cond has its branches
abbrev pub Stands : Code → ℕ → Numbered → Type 0
Stands c b Done = Unit {0}
Stands c b (Plain x r) = (block_at c x ≡ b) × (is_plain (kind_at c x) ≡ true) × Stands c b r
Stands c b (Branch x p y n ys ns r) = (block_at c x ≡ b) × (kind_at c x ≡ kind.Cond p y n) × Stands c y ys × Stands c n ns × Stands c b r

-- by what a node does
node-stands : (c : Code) (each : ℕ → Numbered) → ((b : ℕ) → Stands c b (each b)) → (b x : ℕ) (r : Numbered) → block_at c x ≡ b → Stands c b r → (k : Kind)
    → kind_at c x ≡ k
    → Stands c b (node_tree each x r k)
node-stands c each h b x r e s (kind.Cond p y n) is = (e, is, h y, h n, s)
node-stands c each h b x r e s k is = (e, ap is_plain is, s)

-- nodes in a row
from-stands : (c : Code) (each : ℕ → Numbered) → ((b : ℕ) → Stands c b (each b)) → (b : ℕ) (xs : List ℕ) → ((x : ℕ) → In x xs → block_at c x ≡ b)
    → Stands c b (from c each xs)
from-stands c each h b [] inside = tt
from-stands c each h b (x ∷ xs) inside =
    node-stands c each h b x (from c each xs) (inside x (inl refl)) (from-stands c each h b xs (λ z i. inside z (inr i))) (kind_at c x) refl

-- a code's tree
pub tree-stands : (fuel : ℕ) (c : Code) (b : ℕ) → Stands c b (tree_of fuel c b)
tree-stands zero c b = tt
tree-stands (suc fuel) c b =
    from-stands c (tree_of fuel c) (tree-stands fuel c) b (nodes_in c b)
    (λ x i. number-eq (block_at c x) b (in-filter (λ x. block_at c x == b) x (node_numbers c) i).1)

-- ---- numbers in a row

-- without numbers
abbrev pub shape_of : Numbered → Items
shape_of Done = NoItem
shape_of (Plain x r) = Item (shape_of r)
shape_of (Branch x p y n ys ns r) = Split (shape_of ys) (shape_of ns) (shape_of r)

-- the nodes' numbers
abbrev pub labels : Numbered → List ℕ
labels Done = []
labels (Plain x r) = x ∷ labels r
labels (Branch x p y n ys ns r) = x ∷ (labels ys ++ (labels ns ++ labels r))

-- the blocks that open, each with its cond
abbrev pub openings : Numbered → List (ℕ × Option ℕ)
openings Done = []
openings (Plain x r) = openings r
openings (Branch x p y n ys ns r) = (y, Some x) ∷ (openings ys ++ ((n, Some x) ∷ (openings ns ++ openings r)))

-- there are as many as the size
pub length-labels : (t : Numbered) → length (labels t) ≡ size (shape_of t)
length-labels Done = refl
length-labels (Plain x r) = ap suc (length-labels r)
length-labels (Branch x p y n ys ns r) =
    let a = length-append (labels ys) (labels ns ++ labels r) in
    let b = length-append (labels ns) (labels r) in
    omega (arith, a, b, length-labels ys, length-labels ns, length-labels r)

-- and as many blocks
pub length-openings : (t : Numbered) → length (openings t) ≡ opened (shape_of t)
length-openings Done = refl
length-openings (Plain x r) = length-openings r
length-openings (Branch x p y n ys ns r) =
    let o : ℕ × Option ℕ = (n, Some x) in
    let a = length-append (openings ys) (o ∷ (openings ns ++ openings r)) in
    let b = length-append (openings ns) (openings r) in
    omega (arith, a, b, length-openings ys, length-openings ns, length-openings r)

-- the nodes of the visits
pub visited-labels : (t : Numbered) → flat_map node_visited (numbered_visits t) ≡ labels t
visited-labels Done = refl
visited-labels (Plain x r) = flat_map-cons node_visited (AtNode x) (numbered_visits r) ∙ ap (λ l. x ∷ l) (visited-labels r)
visited-labels (Branch x p y n ys ns r) =
    let behind = numbered_visits ns ++ AtEnd x ∷ [] in
    let ends : flat_map node_visited (AtEnd x ∷ []) ≡ [] = flat_map-cons node_visited (AtEnd x) [] in
    let other : flat_map node_visited behind ≡ labels ns = flat_map-append node_visited (numbered_visits ns) (AtEnd x ∷ [])
    ∙ ap₂ (λ a b. a ++ b) (visited-labels ns) ends ∙ append-nil (labels ns) in
    let middle : flat_map node_visited (numbered_visits ys ++ (AtElse x ∷ behind)) ≡ labels ys ++ labels ns =
    flat_map-append node_visited (numbered_visits ys) (AtElse x ∷ behind)
    ∙ ap₂ (λ a b. a ++ b) (visited-labels ys) (flat_map-cons node_visited (AtElse x) behind ∙ other) in
    flat_map-cons node_visited (AtNode x) ((numbered_visits ys ++ (AtElse x ∷ behind)) ++ numbered_visits r)
    ∙ ap (λ l. x ∷ l) (flat_map-append node_visited (numbered_visits ys ++ (AtElse x ∷ behind)) (numbered_visits r)
    ∙ ap₂ (λ a b. a ++ b) middle (visited-labels r)
    ∙ append_assoc (labels ys) (labels ns) (labels r))

-- a node that is no cond opens nothing
plain-opens : (x : ℕ) (k : Kind) → is_plain k ≡ true → (elim k as (λ _. List (ℕ × Option ℕ)) [ kind.Cond p y n ↦ (y, Some x) ∷ [] | _ ↦ [] ]) ≡ []
plain-opens x (kind.Cond p y n) e = absurd cc
plain-opens x k e = refl

-- the blocks that the visits open
pub opened-openings : (c : Code) (b : ℕ) (t : Numbered) → Stands c b t → flat_map (opened_by c) (numbered_visits t) ≡ openings t
opened-openings c b Done s = refl
opened-openings c b (Plain x r) s = flat_map-cons (opened_by c) (AtNode x) (numbered_visits r)
    ∙ ap₂ (λ a d. a ++ d) (plain-opens x (kind_at c x) s.1) (opened-openings c b r s.2)
opened-openings c b (Branch x p y n ys ns r) s =
    let behind = numbered_visits ns ++ AtEnd x ∷ [] in
    let then_opens : opened_by c (AtNode x) ≡ (y, Some x) ∷ [] = rw (opened_by, s.1) refl in
    let else_opens : opened_by c (AtElse x) ≡ (n, Some x) ∷ [] = rw (opened_by, s.1) refl in
    let ends : flat_map (opened_by c) (AtEnd x ∷ []) ≡ [] = flat_map-cons (opened_by c) (AtEnd x) [] in
    let other : flat_map (opened_by c) behind ≡ openings ns = flat_map-append (opened_by c) (numbered_visits ns) (AtEnd x ∷ [])
    ∙ ap₂ (λ a d. a ++ d) (opened-openings c n ns s.3) ends ∙ append-nil (openings ns) in
    let turn : flat_map (opened_by c) (AtElse x ∷ behind) ≡ (n, Some x) ∷ openings ns = flat_map-cons (opened_by c) (AtElse x) behind
    ∙ ap₂ (λ a d. a ++ d) else_opens other in
    let middle : flat_map (opened_by c) (numbered_visits ys ++ (AtElse x ∷ behind)) ≡ openings ys ++ ((n, Some x) ∷ openings ns) =
    flat_map-append (opened_by c) (numbered_visits ys) (AtElse x ∷ behind) ∙ ap₂ (λ a d. a ++ d) (opened-openings c y ys s.2) turn in
    flat_map-cons (opened_by c) (AtNode x) ((numbered_visits ys ++ (AtElse x ∷ behind)) ++ numbered_visits r)
    ∙ ap₂ (λ a d. a ++ d) then_opens (flat_map-append (opened_by c) (numbered_visits ys ++ (AtElse x ∷ behind)) (numbered_visits r)
    ∙ ap₂ (λ a d. a ++ d) middle (opened-openings c b r s.4)
    ∙ append_assoc (openings ys) ((n, Some x) ∷ openings ns) (openings r))

-- lists of one length that are the same prefix and back
same-parts : {X : Type 0} (xs ys zs ws : List X) → length xs ≡ length zs → xs ++ ys ≡ zs ++ ws → (xs ≡ zs) × (ys ≡ ws)
same-parts [] ys [] ws l e = (refl, e)
same-parts [] ys (z ∷ zs) ws l e = absurd (omega arith)
same-parts (x ∷ xs) ys [] ws l e = absurd (omega arith)
same-parts (x ∷ xs) ys (z ∷ zs) ws l e =
    let one : x ≡ z = cc in
    let rest : xs ++ ys ≡ zs ++ ws = cc in
    let p = same-parts xs ys zs ws (omega arith) rest in
    (ap₂ (λ a b. a ∷ b) one p.0, p.1)

-- a row is as long as it says
pub length-row : (x m : ℕ) → length (in_row x m) ≡ m
length-row x zero = refl
length-row x (suc m) = ap suc (length-row (suc x) m)

-- the nodes' numbers follow one another from x on
abbrev pub InRow : Numbered → ℕ → Type 0
InRow Done x = Unit {0}
InRow (Plain y r) x = (y ≡ x) × InRow r (suc x)
InRow (Branch y p a b ys ns r) x = (y ≡ x) × InRow ys (suc x) × InRow ns (suc x + size (shape_of ys))
    × InRow r (suc x + size (shape_of ys) + size (shape_of ns))

-- where the numbers are a row
pub labels-row : (t : Numbered) (x : ℕ) → labels t ≡ in_row x (size (shape_of t)) → InRow t x
labels-row Done x e = tt
labels-row (Plain y r) x e = let one : y ≡ x = cc in let rest : labels r ≡ in_row (suc x) (size (shape_of r)) = cc in (one, labels-row r (suc x) rest)
labels-row (Branch y p a b ys ns r) x e =
    let m = size (shape_of ys) in
    let n = size (shape_of ns) in
    let l = size (shape_of r) in
    let one : y ≡ x = cc in
    let rest : labels ys ++ (labels ns ++ labels r) ≡ in_row (suc x) (m + (n + l)) = cc in
    let first = same-parts (labels ys) (labels ns ++ labels r) (in_row (suc x) m) (in_row (suc x + m) (n + l)) (length-labels ys ∙ sym (length-row (suc x) m))
    (rest ∙ row-split (suc x) m (n + l)) in
    let second = same-parts (labels ns) (labels r) (in_row (suc x + m) n) (in_row (suc x + m + n) l) (length-labels ns ∙ sym (length-row (suc x + m) n))
    (first.1 ∙ row-split (suc x + m) n l) in
    (one, labels-row ys (suc x) first.0, labels-row ns (suc x + m) second.0, labels-row r (suc x + m + n) second.1)

-- so do the blocks' from k on
abbrev pub BlocksInRow : Numbered → ℕ → Type 0
BlocksInRow Done k = Unit {0}
BlocksInRow (Plain x r) k = BlocksInRow r k
BlocksInRow (Branch x p y n ys ns r) k =
    (y ≡ k) × BlocksInRow ys (suc k) × (n ≡ suc k + opened (shape_of ys)) × BlocksInRow ns (suc (suc k + opened (shape_of ys)))
    × BlocksInRow r (suc (suc k + opened (shape_of ys)) + opened (shape_of ns))

-- the numbers of blocks
abbrev numbers : List (ℕ × Option ℕ) → List ℕ
numbers os = map (λ o. o.0) os

-- of two lists
numbers-append : (xs ys : List (ℕ × Option ℕ)) → numbers (xs ++ ys) ≡ numbers xs ++ numbers ys
numbers-append [] ys = refl
numbers-append (x ∷ xs) ys = ap (λ ns. x.0 ∷ ns) (numbers-append xs ys)

-- as many as there are blocks
length-numbers : (os : List (ℕ × Option ℕ)) → length (numbers os) ≡ length os
length-numbers [] = refl
length-numbers (o ∷ os) = ap suc (length-numbers os)

-- where they are a row
pub openings-row : (t : Numbered) (k : ℕ) → numbers (openings t) ≡ in_row k (opened (shape_of t)) → BlocksInRow t k
openings-row Done k e = tt
openings-row (Plain x r) k e = openings-row r k e
openings-row (Branch x p y n ys ns r) k e =
    let a = opened (shape_of ys) in
    let b = opened (shape_of ns) in
    let l = opened (shape_of r) in
    let o : ℕ × Option ℕ = (n, Some x) in
    let one : y ≡ k = cc in
    let rest : numbers (openings ys ++ (o ∷ (openings ns ++ openings r))) ≡ in_row (suc k) (a + suc (b + l)) = cc in
    let first = same-parts (numbers (openings ys)) (n ∷ numbers (openings ns ++ openings r)) (in_row (suc k) a) (in_row (suc k + a) (suc (b + l)))
    (length-numbers (openings ys) ∙ length-openings ys ∙ sym (length-row (suc k) a)) (sym (numbers-append (openings ys) (o ∷ (openings ns ++ openings r)))
    ∙ rest ∙ row-split (suc k) a (suc (b + l))) in
    let turn : n ≡ suc k + a = (let h = first.1 in cc) in
    let behind : numbers (openings ns ++ openings r) ≡ in_row (suc (suc k + a)) (b + l) = (let h = first.1 in cc) in
    let second = same-parts (numbers (openings ns)) (numbers (openings r)) (in_row (suc (suc k + a)) b) (in_row (suc (suc k + a) + b) l)
    (length-numbers (openings ns) ∙ length-openings ns ∙ sym (length-row (suc (suc k + a)) b)) (sym (numbers-append (openings ns) (openings r)) ∙ behind
    ∙ row-split (suc (suc k + a)) b l) in
    (one, openings-row ys (suc k) first.0, turn, openings-row ns (suc (suc k + a)) second.0, openings-row r (suc (suc k + a) + b) second.1)
