-- The vertices of a code, counted block by block or node by node.
use Rattle.std.proofs.Common.{◌≡◌, ℕ, zero, suc, ◌+◌, ◌<◌, ◌≤◌, Bool, true, false, ◌==◌, nat_lt, List, [], ◌∷◌, filter, sum_by, length, refl, sym, ap}
use Rattle.std.proofs.Common.{ap₂, ◌∙◌, arith, tests}
use Rattle.std.proofs.Common.{inl, inr, cond, get_or}
use Rattle.std.proofs.lemmas.Option.{slice_get_read}
use Rattle.std.proofs.lemmas.List.Sums.{sum_by-cons, sum_by_push}
use Rattle.tam_word.specs.Lists.{below}
use Rattle.tam_word.proofs.Tests.{below-test}
use Rattle.tam_word.proofs.Members.{In, in-below}
use Rattle.tam_graph.specs.declared.node.Node.{Node}
use Rattle.tam_graph.specs.Graphs.{Code, or_kind, kind_at, block_at, node_numbers, blocks_of, is_split}
use Rattle.tam_graph.specs.Written.{IsWritten, vertices_at, number_of_vertices}
use Rattle.tam_graph.proofs.FewNodes.{block-below}
use Rattle.tam_split.proofs.Vertices.{number_of_vertices-length}
use Rattle.tam_list.specs.Listings.{vertices_of_code}

-- sums of the same terms
same-terms : (f g : ℕ → ℕ) (xs : List ℕ) → ((x : ℕ) → f x ≡ g x) → sum_by f xs ≡ sum_by g xs
same-terms f g [] same = refl
same-terms f g (x ∷ xs) same = sum_by-cons f x xs ∙ (ap₂ (λ m n. m + n) (same x) (same-terms f g xs same) ∙ sym (sum_by-cons g x xs))

-- where each element passes, all are left
all-stay : (test : ℕ → Bool) (xs : List ℕ) → ((x : ℕ) → In x xs → test x ≡ true) → filter test xs ≡ xs
all-stay test [] h = refl
all-stay test (x ∷ xs) h = rw (h x (inl refl)) (ap (λ ys. x ∷ ys) (all-stay test xs (λ y m. h y (inr m))))

module _ (f group : ℕ → ℕ) where
  -- the sum over the groups below m + 1 is that over those below m and that over m
  one-group : (m : ℕ) (xs : List ℕ)
      → sum_by f (filter (λ x. nat_lt (group x) (suc m)) xs) ≡ sum_by f (filter (λ x. nat_lt (group x) m) xs) + sum_by f (filter (λ x. group x == m) xs)
  one-group m [] = refl
  one-group m (x ∷ xs) = go (nat_lt (group x) (suc m)) refl (nat_lt (group x) m) refl (group x == m) refl (one-group m xs)
    where
      go : (p : Bool) → nat_lt (group x) (suc m) ≡ p → (q : Bool) → nat_lt (group x) m ≡ q → (r : Bool) → (group x == m) ≡ r
          → sum_by f (filter (λ y. nat_lt (group y) (suc m)) xs) ≡ sum_by f (filter (λ y. nat_lt (group y) m) xs) + sum_by f (filter (λ y. group y == m) xs)
          → sum_by f (filter (λ y. nat_lt (group y) (suc m)) (x ∷ xs))
          ≡ sum_by f (filter (λ y. nat_lt (group y) m) (x ∷ xs)) + sum_by f (filter (λ y. group y == m) (x ∷ xs))
      go true e true k false h i = rw (e, k, h) (omega (arith, i, sum_by-cons f x))
      go true e false k true h i = rw (e, k, h) (omega (arith, i, sum_by-cons f x))
      go false e false k false h i = rw (e, k, h) i
      go true e true k true h i = absurd (grind (arith, tests))
      go true e false k false h i = absurd (grind (arith, tests))
      go false e true k r h i = absurd (grind (arith, tests))
      go false e false k true h i = absurd (grind (arith, tests))

  -- no element has a group below 0
  no-group : (xs : List ℕ) → sum_by f (filter (λ x. nat_lt (group x) 0) xs) ≡ 0
  no-group [] = refl
  no-group (x ∷ xs) = let e : nat_lt (group x) 0 ≡ false = grind (arith, tests) in rw e (no-group xs)

  -- a sum over the groups below m is a sum of their sums
  by-groups : (xs : List ℕ) (m : ℕ) → sum_by f (filter (λ x. nat_lt (group x) m) xs) ≡ sum_by (λ b. sum_by f (filter (λ x. group x == b) xs)) (below m)
  by-groups xs zero = no-group xs
  by-groups xs (suc m) =
      one-group m xs
      ∙ (ap (λ n. n + sum_by f (filter (λ x. group x == m) xs)) (by-groups xs m)
      ∙ sym (sum_by_push (λ b. sum_by f (filter (λ x. group x == b) xs)) (below m) m))

-- the vertices of a code are those of its nodes
pub vertices-by_nodes : (codes : ℕ) (c : Code) → IsWritten codes c → vertices_of_code c ≡ sum_by (vertices_at c) (node_numbers c)
vertices-by_nodes codes c written =
    same-terms _ (number_of_vertices c) (blocks_of c) (number_of_vertices-length c)
    ∙ (sym (by-groups (vertices_at c) (block_at c) (node_numbers c) (length c.owners))
    ∙ ap (sum_by (vertices_at c)) (all-stay (λ x. nat_lt (block_at c x) (length c.owners)) (node_numbers c)
    (λ x m. below-test _ _ (block-below codes c written x (in-below x (length c.nodes) m)))))

-- ---- step by step

-- the sum over one number more
pub sum-more : (f : ℕ → ℕ) (n s t : ℕ) → s ≡ sum_by f (below n) → t ≡ f n → s + t ≡ sum_by f (below (n + 1))
sum-more f n s t p q =
    ap₂ (λ a b. a + b) p q ∙ (sym (sum_by_push f (below n) n) ∙ ap (λ m. sum_by f (below m)) (let e : suc n ≡ n + 1 = omega arith in e))

-- how many vertices the node at a place has
pub vertices-there : (c : Code) (n : ℕ) (node : Node) (t : ℕ) → n < length c.nodes → node ≡ get_or c.nodes n node → t ≡ cond (is_split node.kind) 2 1
    → t ≡ vertices_at c n
vertices-there c n node t l r e = go (is_split node.kind) refl
  where
    there : kind_at c n ≡ node.kind
    there = ap or_kind (slice_get_read c.nodes (length c.nodes) n node refl l r)

    go : (b : Bool) → is_split node.kind ≡ b → t ≡ vertices_at c n
    go true k = e ∙ (rw (vertices_at, there, k) refl)
    go false k = e ∙ (rw (vertices_at, there, k) refl)

-- a node has at most two
pub few-at : (c : Code) (n : ℕ) → vertices_at c n ≤ 2
few-at c n = go (is_split (kind_at c n)) refl
  where
    go : (b : Bool) → is_split (kind_at c n) ≡ b → vertices_at c n ≤ 2
    go true e = rw (vertices_at, e) (omega arith)
    go false e = rw (vertices_at, e) (omega arith)
