-- A code that is written has the numbers of its tree: nodes from 0 on, blocks from 1 on, and the owners that the tree opens.
use Rattle.std.proofs.Common.{◌≡◌, ℕ, zero, suc, ◌+◌, ◌<◌, ◌≤◌, Bool, true, false, List, [], ◌∷◌, ◌++◌, length, map}
use Rattle.std.proofs.Common.{flat_map, zip, Option, Some, None, refl, sym, ap, ap₂, subst, ◌∙◌, arith}
use Rattle.std.proofs.lemmas.List.{append-nil, length-append}
use Rattle.tam_graph.specs.Graphs.{Code, kind_at, block_at, node_numbers, blocks_of}
use Rattle.tam_graph.specs.Written.{Visit, AtNode, AtElse, AtEnd, visits, node_visited, opened_by, in_file_order, in_opening_order, IsWritten}
use Rattle.tam_graph.proofs.Visited.{Items, size, opened, visits_of, Agrees}
use Rattle.tam_read.proofs.TreeVisited.{in_row, below-row}
use Rattle.tam_read.proofs.WrittenTrees.{Numbered, Done, Plain, Branch, tree_of, numbered_visits, tree-visits, Stands, tree-stands, shape_of, labels, openings}
use Rattle.tam_read.proofs.WrittenTrees.{visited-labels, opened-openings, length-labels, length-openings, InRow, labels-row, BlocksInRow, openings-row}
use Rattle.tam_read.proofs.WrittenTrees.{length-row}

-- the tree's nodes and blocks have the numbers of their places
pub record IsNumbered (c : Code) : Type 0 where
  pub tree : Numbered
  pub stands : Stands c 0 tree
  pub nodes : InRow tree 0
  pub blocks : BlocksInRow tree 1
  pub many : length c.nodes ≡ size (shape_of tree)
  pub owners : c.owners ≡ None ∷ map (λ o. o.1) (openings tree)
  pub visited : visits (length c.owners) c 0 ≡ numbered_visits tree

-- the first of pairs
firsts-zip : (ks : List ℕ) (os : List (Option ℕ)) → length ks ≡ length os → map (λ o. o.0) (zip ks os) ≡ ks
firsts-zip [] [] e = refl
firsts-zip [] (o ∷ os) e = absurd (omega arith)
firsts-zip (k ∷ ks) [] e = absurd (omega arith)
firsts-zip (k ∷ ks) (o ∷ os) e = ap (λ l. k ∷ l) (firsts-zip ks os (omega arith))

-- and the second
seconds-zip : (ks : List ℕ) (os : List (Option ℕ)) → length ks ≡ length os → map (λ o. o.1) (zip ks os) ≡ os
seconds-zip [] [] e = refl
seconds-zip [] (o ∷ os) e = absurd (omega arith)
seconds-zip (k ∷ ks) [] e = absurd (omega arith)
seconds-zip (k ∷ ks) (o ∷ os) e = ap (λ l. o ∷ l) (seconds-zip ks os (omega arith))

-- the owners, the first apart
record AreOwners (os : List (ℕ × Option ℕ)) (owners : List (Option ℕ)) : Type 0 where
  is : owners ≡ None ∷ map (λ o. o.1) os
  row : map (λ o. o.0) os ≡ in_row 1 (length os)

-- with block 0
abbrev with_outer : List (ℕ × Option ℕ) → List (ℕ × Option ℕ)
with_outer os = (0, None) ∷ os

-- the owners behind the first are those that the tree opens
owners-apart : (os : List (ℕ × Option ℕ)) (owners : List (Option ℕ)) → with_outer os ≡ zip (in_row 0 (length owners)) owners → AreOwners os owners
owners-apart os [] e = absurd cc
owners-apart os (o ∷ owners) e =
    let outer : ℕ × Option ℕ = (0, None) in
    let head : ℕ × Option ℕ = (0, o) in
    let first : outer ≡ head = cc in
    let none : None ≡ o = ap (λ z. z.1) first in
    let rest : os ≡ zip (in_row 1 (length owners)) owners = cc in
    let long : length (in_row 1 (length owners)) ≡ length owners = length-row 1 (length owners) in
    let seconds : map (λ o. o.1) os ≡ owners = ap (map (λ o. o.1)) rest ∙ seconds-zip (in_row 1 (length owners)) owners long in
    let firsts : map (λ o. o.0) os ≡ in_row 1 (length owners) = ap (map (λ o. o.0)) rest ∙ firsts-zip (in_row 1 (length owners)) owners long in
    let same : length owners ≡ length os = (sym (length-row 1 (length owners)) ∙ ap length (sym firsts) ∙ mapped os) in
    record { is = ap₂ (λ a l. a ∷ l) (sym none) (sym seconds); row = firsts ∙ ap (in_row 1) same }
  where
    mapped : (xs : List (ℕ × Option ℕ)) → length (map (λ o. o.0) xs) ≡ length xs
    mapped [] = refl
    mapped (x ∷ xs) = ap suc (mapped xs)

-- a code that is written is numbered so
pub written-numbered : (codes : ℕ) (c : Code) → IsWritten codes c → IsNumbered c
written-numbered codes c w =
    let t = tree_of (length c.owners) c 0 in
    let same : numbered_visits t ≡ visits (length c.owners) c 0 = tree-visits (length c.owners) c 0 in
    let stands = tree-stands (length c.owners) c 0 in
    let row : labels t ≡ in_row 0 (length c.nodes) = sym (visited-labels t) ∙ ap (flat_map node_visited) same ∙ w.nodes_in_order ∙ below-row (length c.nodes) in
    let many : length c.nodes ≡ size (shape_of t) = sym (length-row 0 (length c.nodes)) ∙ ap length (sym row) ∙ length-labels t in
    let opens : openings t ≡ in_opening_order (length c.owners) c 0 = sym (opened-openings c 0 t stands) ∙ ap (flat_map (opened_by c)) same in
    let zipped : (0, None) ∷ openings t ≡ zip (in_row 0 (length c.owners)) c.owners =
    ap (λ os. (0, None) ∷ os) opens ∙ w.blocks_in_order ∙ ap (λ ks. zip ks c.owners) (below-row (length c.owners)) in
    let o = owners-apart (openings t) c.owners zipped in
    record {
      tree = t;
      stands = stands;
      nodes = labels-row t 0 (row ∙ ap (in_row 0) many);
      blocks = openings-row t 1 (o.row ∙ ap (in_row 1) (length-openings t));
      many = many;
      owners = o.is;
      visited = sym same;
    }
