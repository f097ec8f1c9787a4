-- The branches of a cond of an accepted graph aren't its code's body, and so a node that comes in stands in a branch.
use Rattle.std.proofs.Common.{◌≡◌, ℕ, zero, suc, ◌<◌, List, [], ◌∷◌, ◌++◌, true, refl, sym, subst, ap, inl, inr, ◌⊎◌, ⊎_elim, ◌∙◌, length, arith, Some, None}
use Rattle.std.proofs.Common.{slice_get}
use Rattle.std.specs.List.{zip}
use Rattle.std.specs.Prelude.{Option}
use Rattle.tam_word.specs.Lists.{below}
use Rattle.tam_word.proofs.Tests.{below-test}
use Rattle.tam_word.proofs.Members.{In, below-in, in-get}
use Rattle.tam_graph.specs.declared.kind.Kind.TheVariants.{Cond, Switch, Enter}
use Rattle.tam_graph.specs.Graphs.{Code, Graph, code_of, or_block, kind_at, block_at, depth_at, blocks_of, chosen_branch, branch_of_kind}
use Rattle.tam_graph.specs.Written.{in_file_order, in_opening_order, IsWritten}
use Rattle.tam_graph.proofs.Visits.{node-visited, both-opened}
use Rattle.tam_graph.specs.Accepted.{IsAccepted, enters_depth}
use Rattle.tam_graph.proofs.AcceptedFacts.{node-there}
use Rattle.tam_graph.proofs.Depths.{switch-depth, enters-depth-at}
use Rattle.std.proofs.lemmas.Option.{slice_get_within}

-- an element of a list with one more
get-last : (xs : List ℕ) (y k m : ℕ) → slice_get (xs ++ y ∷ []) k ≡ Some m → (slice_get xs k ≡ Some m) ⊎ ((k ≡ length xs) × (m ≡ y))
get-last [] y zero m h = inr (refl, cc)
get-last [] y (suc k) m h = absurd (cc)
get-last (x ∷ xs) y zero m h = inl h
get-last (x ∷ xs) y (suc k) m h = ⊎_elim inl (λ r. inr (ap suc r.0, r.1)) (get-last xs y k m h)

-- they are so many
length-below : (n : ℕ) → length (below n) ≡ n
length-below zero = refl
length-below (suc n) = last (below n) ∙ ap suc (length-below n)
  where
    last : (xs : List ℕ) → length (xs ++ n ∷ []) ≡ suc (length xs)
    last [] = refl
    last (x ∷ xs) = ap suc (last xs)

-- the numbers below n stand at their own places
get-below : (n k m : ℕ) → slice_get (below n) k ≡ Some m → m ≡ k
get-below zero k m h = absurd (cc)
get-below (suc n) k m h = ⊎_elim (get-below n k m) (λ r. r.1 ∙ sym (r.0 ∙ length-below n)) (get-last (below n) n k m h)

-- an element of a zip has the first list's element
get-zip : {X : Type 0} (ks : List ℕ) (xs : List X) (k : ℕ) (e : ℕ × X) → slice_get (zip ks xs) k ≡ Some e → slice_get ks k ≡ Some e.0
get-zip [] xs k e h = absurd (cc)
get-zip (a ∷ ks) [] k e h = absurd (cc)
get-zip (a ∷ ks) (x ∷ xs) zero e h = ap Some (ap (λ (d : ℕ × _). d.0) (same (a, x) e h))
  where
    same : {Y : Type 0} (u v : Y) → ◌≡◌ {A = Option Y} (Some u) (Some v) → u ≡ v
    same u v h = cc
get-zip (a ∷ ks) (x ∷ xs) (suc k) e h = get-zip ks xs k e h

module _ (codes : ℕ) (c : Code) (written : IsWritten codes c) where
  -- a block that was opened isn't block 0
  opened-later : (y : ℕ) (o : Option ℕ) → In (y, o) (in_opening_order (length c.owners) c 0) → 0 < y
  opened-later y o a = at (in-get (y, o) (in_opening_order (length c.owners) c 0) a)
    where
      at : (k : ℕ) × (slice_get (in_opening_order (length c.owners) c 0) k ≡ Some (y, o)) → 0 < y
      at (k, e) =
          let z : slice_get (zip (blocks_of c) c.owners) (suc k) ≡ Some (y, o) = subst (λ l. slice_get l (suc k) ≡ Some (y, o)) written.blocks_in_order e in
          let m : y ≡ suc k = get-below (length c.owners) (suc k) y (get-zip (blocks_of c) c.owners (suc k) (y, o) z) in
          omega arith

  -- no branch is the body
  pub branches-later : (x p y n : ℕ) → kind_at c x ≡ Cond p y n → (0 < y) × (0 < n)
  branches-later x p y n e =
      let there : In x (in_file_order (length c.owners) c 0) = subst (In x) (sym written.nodes_in_order)
      (below-in x (length c.nodes) (node-there c x (λ z. cc))) in
      let o = both-opened (length c.owners) c 0 x p y n e (node-visited (length c.owners) c 0 x there) in
      (opened-later y (Some x) o.0, opened-later n (Some x) o.1)

-- a node of a block that isn't the body is there
pub block-there : (c : Code) (x : ℕ) → 0 < block_at c x → x < length c.nodes
block-there c x l = go (slice_get c.nodes x) refl
  where
    go : (o : _) → slice_get c.nodes x ≡ o → x < length c.nodes
    go None e = let z : block_at c x ≡ 0 = ap or_block e in absurd (omega arith)
    go (Some m) e = slice_get_within c.nodes x m e

-- an `in` of the branch that a cond's word chooses has the depth of what the switch gives
pub enter-depth : (g : Graph) → IsAccepted g → (n : ℕ) → n < length g.codes → (x d k a y p m q w : ℕ) → kind_at (code_of g n) y ≡ Switch d k a
    → kind_at (code_of g n) d ≡ Cond p m q → kind_at (code_of g n) x ≡ Enter k → block_at (code_of g n) x ≡ chosen_branch (code_of g n) d w
    → depth_at (code_of g n) x ≡ depth_at (code_of g n) a
enter-depth g acc n l x d k a y p m q w s c e b = go w (b ∙ ap (λ z. branch_of_kind z w) c)
  where
    later : (0 < m) × (0 < q)
    later = branches-later (length g.codes) (code_of g n) (acc.written n (below-test n (length g.codes) l)) d p m q c

    depths : (enters_depth (code_of g n) k (depth_at (code_of g n) a) m ≡ true) × (enters_depth (code_of g n) k (depth_at (code_of g n) a) q ≡ true)
    depths = switch-depth g acc n l y d k a p m q s c

    in-block : (b : ℕ) → 0 < b → block_at (code_of g n) x ≡ b → enters_depth (code_of g n) k (depth_at (code_of g n) a) b ≡ true
        → depth_at (code_of g n) x ≡ depth_at (code_of g n) a
    in-block b pos same h = enters-depth-at (code_of g n) k (depth_at (code_of g n) a) b x
        (block-there (code_of g n) x (subst (λ z. 0 < z) (sym same) pos)) e same h

    go : (v : ℕ) → block_at (code_of g n) x ≡ branch_of_kind (Cond p m q) v → depth_at (code_of g n) x ≡ depth_at (code_of g n) a
    go zero r = in-block q later.1 r depths.1
    go (suc v) r = in-block m later.0 r depths.0
