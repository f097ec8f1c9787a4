-- What the visits of a code's lines have in them: nodes, the blocks that conds open, and the visits of branches.
use Rattle.std.proofs.Common.{◌≡◌, ℕ, zero, suc, ◌<◌, ◌⊎◌, inl, inr, ⊎_elim, List, [], ◌∷◌, ◌++◌, Option, Some, refl, sym, subst, ◌==◌}
use Rattle.tam_graph.specs.declared.kind.Kind.{Kind}
use Rattle.tam_graph.specs.declared.kind.Kind.TheVariants.{Cond}
use Rattle.tam_graph.specs.Graphs.{Code, kind_at, block_at, nodes_in, node_numbers}
use Rattle.tam_graph.specs.Written.{Visit, AtNode, AtElse, AtEnd, branches, visits, node_visited, opened_by, in_file_order, in_opening_order}
use Rattle.tam_word.proofs.Tests.{number-eq}
use Rattle.tam_word.proofs.Members.{In, left-in, right-in, in-append, in-flat_map, flat_map-in, in-filter}

-- what is visited in a block: a node of it, or what is visited in a branch of one of its conds
pub data Visited (fuel : ℕ) (c : Code) (b : ℕ) (v : Visit) : Type 0 where
  Here : (x : ℕ) → In x (nodes_in c b) → AtNode x ≡ v → Visited fuel c b v
  Behind : (x : ℕ) → In x (nodes_in c b) → In v (branches (visits fuel c) x (kind_at c x)) → Visited fuel c b v

-- each visit is one of these
pub visited : (fuel : ℕ) (c : Code) (b : ℕ) (v : Visit) → In v (visits (suc fuel) c b) → Visited fuel c b v
visited fuel c b v a = at (in-flat_map (λ x. AtNode x ∷ branches (visits fuel c) x (kind_at c x)) v (nodes_in c b) a)
  where
    at : (x : ℕ) × In x (nodes_in c b) × In v (AtNode x ∷ branches (visits fuel c) x (kind_at c x)) → Visited fuel c b v
    at (x, m, inl e) = Here x m e
    at (x, m, inr k) = Behind x m k

-- a node of a block is visited
pub here-visited : (fuel : ℕ) (c : Code) (b x : ℕ) → In x (nodes_in c b) → In (AtNode x) (visits (suc fuel) c b)
here-visited fuel c b x m = flat_map-in (λ x. AtNode x ∷ branches (visits fuel c) x (kind_at c x)) x (AtNode x) (nodes_in c b) m (inl refl)

-- and so is what is visited in its branches
pub behind-visited : (fuel : ℕ) (c : Code) (b x : ℕ) (v : Visit) → In x (nodes_in c b) → In v (branches (visits fuel c) x (kind_at c x))
    → In v (visits (suc fuel) c b)
behind-visited fuel c b x v m k = flat_map-in (λ x. AtNode x ∷ branches (visits fuel c) x (kind_at c x)) x v (nodes_in c b) m (inr k)

-- a node behind a cond's line stands in one of its branches
pub in-branches : (each : ℕ → List Visit) (z : ℕ) (k : Kind) (x : ℕ) → In (AtNode x) (branches each z k)
    → (p y n : ℕ) × (k ≡ Cond p y n) × (In (AtNode x) (each y) ⊎ In (AtNode x) (each n))
in-branches each z (Cond p y n) x a = (p, y, n, refl, ⊎_elim inl behind (in-append (AtNode x) (each y) (AtElse z ∷ each n ++ AtEnd z ∷ []) a))
  where
    last : In (AtNode x) (AtEnd z ∷ []) → In (AtNode x) (each y) ⊎ In (AtNode x) (each n)
    last (inl e) = absurd (cc)
    last (inr k) = absurd k

    behind : In (AtNode x) (AtElse z ∷ each n ++ AtEnd z ∷ []) → In (AtNode x) (each y) ⊎ In (AtNode x) (each n)
    behind (inl e) = absurd (cc)
    behind (inr m) = ⊎_elim inr last (in-append (AtNode x) (each n) (AtEnd z ∷ []) m)
in-branches each z k x a = absurd a

-- what is visited in the then block stands behind the cond
pub then-behind : (each : ℕ → List Visit) (z p y n : ℕ) (v : Visit) → In v (each y) → In v (branches each z (Cond p y n))
then-behind each z p y n v m = left-in v (each y) (AtElse z ∷ each n ++ AtEnd z ∷ []) m

-- and what is visited in the else block
pub else-behind : (each : ℕ → List Visit) (z p y n : ℕ) (v : Visit) → In v (each n) → In v (branches each z (Cond p y n))
else-behind each z p y n v m = right-in v (each y) (AtElse z ∷ each n ++ AtEnd z ∷ []) (inr (left-in v (each n) (AtEnd z ∷ []) m))

-- a node in file order has a line
pub node-visited : (fuel : ℕ) (c : Code) (b x : ℕ) → In x (in_file_order fuel c b) → In (AtNode x) (visits fuel c b)
node-visited fuel c b x a = at (in-flat_map node_visited x (visits fuel c b) a)
  where
    at : (v : Visit) × In v (visits fuel c b) × In x (node_visited v) → In (AtNode x) (visits fuel c b)
    at (AtNode y, m, inl e) = subst (λ z. In (AtNode z) (visits fuel c b)) e m
    at (AtNode y, m, inr k) = absurd k
    at (AtElse y, m, k) = absurd k
    at (AtEnd y, m, k) = absurd k

-- where the line of a cond is visited, so is its `else`
pub else-visited : (fuel : ℕ) (c : Code) (b x p y n : ℕ) → kind_at c x ≡ Cond p y n → In (AtNode x) (visits fuel c b) → In (AtElse x) (visits fuel c b)
else-visited zero c b x p y n e a = absurd a
else-visited (suc fuel) c b x p y n e a = at (visited fuel c b (AtNode x) a) (λ d. else-visited fuel c d x p y n e)
  where
    at : Visited fuel c b (AtNode x) → ((d : ℕ) → In (AtNode x) (visits fuel c d) → In (AtElse x) (visits fuel c d)) → In (AtElse x) (visits (suc fuel) c b)
    at (Here z m same) deep =
        let is : x ≡ z = cc in
        behind-visited fuel c b x (AtElse x) (rw is m)
        (subst (λ k. In (AtElse x) (branches (visits fuel c) x k)) (sym e)
        (right-in (AtElse x) (visits fuel c y) (AtElse x ∷ visits fuel c n ++ AtEnd x ∷ []) (inl refl)))
    at (Behind z m k) deep = behind-visited fuel c b z (AtElse x) m (within (in-branches (visits fuel c) z (kind_at c z) x k))
      where
        within : (p y n : ℕ) × (kind_at c z ≡ Cond p y n) × (In (AtNode x) (visits fuel c y) ⊎ In (AtNode x) (visits fuel c n))
            → In (AtElse x) (branches (visits fuel c) z (kind_at c z))
        within (p, y, n, is, inl t) =
            subst (λ k. In (AtElse x) (branches (visits fuel c) z k)) (sym is) (then-behind (visits fuel c) z p y n (AtElse x) (deep y t))
        within (p, y, n, is, inr t) =
            subst (λ k. In (AtElse x) (branches (visits fuel c) z k)) (sym is) (else-behind (visits fuel c) z p y n (AtElse x) (deep n t))

-- the line of a cond opens its then block
then-opened : (c : Code) (x p y n : ℕ) → kind_at c x ≡ Cond p y n → In (y, Some x) (opened_by c (AtNode x))
then-opened c x p y n e = let is : opened_by c (AtNode x) ≡ (y, Some x) ∷ [] = rw (opened_by, e) refl in subst (In (y, Some x)) (sym is) (inl refl)

-- and its `else` opens its else block
else-opened : (c : Code) (x p y n : ℕ) → kind_at c x ≡ Cond p y n → In (n, Some x) (opened_by c (AtElse x))
else-opened c x p y n e = let is : opened_by c (AtElse x) ≡ (n, Some x) ∷ [] = rw (opened_by, e) refl in subst (In (n, Some x)) (sym is) (inl refl)

-- where the line of a cond is visited, both its branches are opened
pub both-opened : (fuel : ℕ) (c : Code) (b x p y n : ℕ) → kind_at c x ≡ Cond p y n → In (AtNode x) (visits fuel c b)
    → In (y, Some x) (in_opening_order fuel c b) × In (n, Some x) (in_opening_order fuel c b)
both-opened fuel c b x p y n e a = (
  flat_map-in (opened_by c) (AtNode x) (y, Some x) (visits fuel c b) a (then-opened c x p y n e),
  flat_map-in (opened_by c) (AtElse x) (n, Some x) (visits fuel c b) (else-visited fuel c b x p y n e a) (else-opened c x p y n e),
)

-- what branches of a block's conds open, the block opens
pub opened-deeper : (fuel : ℕ) (c : Code) (b d : ℕ) (o : ℕ × Option ℕ) → ((v : Visit) → In v (visits fuel c d) → In v (visits (suc fuel) c b))
    → In o (in_opening_order fuel c d) → In o (in_opening_order (suc fuel) c b)
opened-deeper fuel c b d o more a = at (in-flat_map (opened_by c) o (visits fuel c d) a)
  where
    at : (v : Visit) × In v (visits fuel c d) × In o (opened_by c v) → In o (in_opening_order (suc fuel) c b)
    at (v, m, k) = flat_map-in (opened_by c) v o (visits (suc fuel) c b) (more v m) k

-- where each opened block is below a number and the first too, each node stands in a block below it
pub blocks-below : (limit fuel : ℕ) (c : Code) (b : ℕ) → b < limit → ((o : ℕ × Option ℕ) → In o (in_opening_order fuel c b) → o.0 < limit) → (x : ℕ)
    → In (AtNode x) (visits fuel c b) → block_at c x < limit
blocks-below limit zero c b l h x a = absurd a
blocks-below limit (suc fuel) c b l h x a = at (visited fuel c b (AtNode x) a) (λ d m k. blocks-below limit fuel c d m k x)
  where
    in-block : (z : ℕ) → In z (nodes_in c b) → block_at c z < limit
    in-block z m = let same : block_at c z ≡ b = number-eq (block_at c z) b (in-filter (λ y. block_at c y == b) z (node_numbers c) m).1 in rw same l

    at : Visited fuel c b (AtNode x)
        → ((d : ℕ) → d < limit → ((o : ℕ × Option ℕ) → In o (in_opening_order fuel c d) → o.0 < limit) → In (AtNode x) (visits fuel c d)
        → block_at c x < limit)
        → block_at c x < limit
    at (Here z m same) deep = let is : x ≡ z = cc in rw is (in-block z m)
    at (Behind z m k) deep = within (in-branches (visits fuel c) z (kind_at c z) x k)
      where
        more : (d p y n : ℕ) → kind_at c z ≡ Cond p y n → (d ≡ y) ⊎ (d ≡ n) → (v : Visit) → In v (visits fuel c d) → In v (visits (suc fuel) c b)
        more d p y n is (inl e) v t =
            behind-visited fuel c b z v m (subst (λ k. In v (branches (visits fuel c) z k)) (sym is)
            (then-behind (visits fuel c) z p y n v (subst (λ q. In v (visits fuel c q)) e t)))
        more d p y n is (inr e) v t =
            behind-visited fuel c b z v m (subst (λ k. In v (branches (visits fuel c) z k)) (sym is)
            (else-behind (visits fuel c) z p y n v (subst (λ q. In v (visits fuel c q)) e t)))

        within : (p y n : ℕ) × (kind_at c z ≡ Cond p y n) × (In (AtNode x) (visits fuel c y) ⊎ In (AtNode x) (visits fuel c n)) → block_at c x < limit
        within (p, y, n, is, t) = go t (both-opened (suc fuel) c b z p y n is (here-visited fuel c b z m))
          where
            go : In (AtNode x) (visits fuel c y) ⊎ In (AtNode x) (visits fuel c n)
                → In (y, Some z) (in_opening_order (suc fuel) c b) × In (n, Some z) (in_opening_order (suc fuel) c b) → block_at c x < limit
            go (inl t) o = deep y (h (y, Some z) o.0) (λ q r. h q (opened-deeper fuel c b y q (more y p y n is (inl refl)) r)) t
            go (inr t) o = deep n (h (n, Some z) o.1) (λ q r. h q (opened-deeper fuel c b n q (more n p y n is (inr refl)) r)) t
